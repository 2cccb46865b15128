use Rattle.std.proofs.Common.{◌∙◌, sym, length, arith}
use Rattle.idl_read.specs.Reading.{begins_with, word_is, while_at}
use Rattle.idl_read.proofs.Loops.{goes_on}
use Rattle.idl_read.proofs.items.while_word.Goals as goal

pub items-preserved : goal.items-preserved
items-preserved g c =
    let at = g.T.Production.at in
    rw c.in_ok-push.ensures.ok (goes_on (begins_with (word_is c.args.word.now)) (at) (length c.args.tokens.now) c.items.counter
    c.items.items c.items.rest.now (while_at c.args.word.now at c.args.tokens.now) c.in_ok-item.item c.in_ok-item.tail.now
    c.items.invariant (omega arith) (sym c.begins.ensures ∙ c.if-not-begins.false) c.in_ok-item.ensures)
