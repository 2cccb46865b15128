use Rattle.std.proofs.Common.{◌∙◌, sym}
use Rattle.idl_lex.specs.Pieces.{count_to_close}
use Rattle.idl_lex.proofs.Counts.{count_on}
use Rattle.idl_lex.proofs.pieces.count_to_close.Goals as goal

pub loop-i-preserved : goal.loop-i-preserved
loop-i-preserved c =
    count_on c.args.text.now c.loop-i.i (count_to_close c.args.text.now) c.loop-i.invariant c.loop-i-test.true
    (sym c.starts_with.ensures.value ∙ c.if-starts_with.false)
