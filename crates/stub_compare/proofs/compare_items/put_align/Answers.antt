use Rattle.std.proofs.Common.{sym, ◌∙◌}
use Rattle.cast_stub.specs.Block.{align}
use Rattle.stub_flat.specs.Residues.{aligned}
use Rattle.stub_places.specs.Sets.{set_of}
use Rattle.stub_compare.proofs.CompareTables.{agree_each}
use Rattle.stub_compare.proofs.CompareOps.{told_align, untold_align}
use Rattle.stub_compare.proofs.CompareArms.{nothing_put}
use Rattle.stub_compare.proofs.compare_items.put_align.Goals as goal

pub returns-then-not-is_width : goal.returns-then-not-is_width
returns-then-not-is_width c = λ N s.
    nothing_put N s (align c.args.a) (set_of c.args.set.now) (set_of c.args.set.now) c.args.out.now c.args.out.now c.args.out.now
    (untold_align N s c.args.a _ _ (sym c.is_width.ensures ∙ c.if-not-is_width.true))

pub returns : goal.returns
returns c = λ N s.
    told_align N s c.args.a (set_of c.args.set.now) (set_of c.aligned.result) c.args.out.now c.put_pad.new.out
    (sym c.is_width.ensures ∙ c.if-not-is_width.false)
    (agree_each (aligned c.args.a (set_of c.args.set.now)) c.aligned.result c.aligned.ensures) c.in_ok-put_pad.ensures
