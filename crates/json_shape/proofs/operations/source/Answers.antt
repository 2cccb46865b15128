use Rattle.std.proofs.Common.{◌∙◌}
use Rattle.json_shape.proofs.Seeking.{are_plain, homes_are}
use Rattle.json_shape.proofs.operations.source.Goals as goal

pub source_in-requires : goal.source_in-requires
source_in-requires c =
    homes_are c.args.bound.now c.back.result c.as_slice-2.result.now c.as_slice.result.now c.ops.ensures.stands c.back.ensures
    (c.as_slice-2.ensures ∙ c.ops.ensures.value)
    (are_plain c.args.bound.now c.unit.result.now c.interfaces.result.now c.as_slice.result.now
    c.unit.ensures c.interfaces.ensures c.as_slice.ensures)
