use Rattle.std.proofs.Common.{sym, ◌∙◌}
use Rattle.aoi.specs.Shapes.{seen}
use Rattle.aoi.proofs.Numbers.{follow_on}
use Rattle.aoi.proofs.soundness.unfolded.Goals as goal

pub names-preserved : goal.names-preserved
names-preserved c =
    follow_on c.args.types.now _ (seen c.names.ty.now) c.args.limit c.names.counter c.names.left c.in-Some.k c.index-types-left.result
    c.names.invariant.1 c.names-test.true (sym c.in-Some.is ∙ c.name_in.ensures) c.if-k-left.false c.names.invariant.0
