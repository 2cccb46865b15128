use Rattle.std.proofs.Common.{ap, sym, ◌∙◌}
use Rattle.aoi.specs.Plain.{plain_interface}
use Rattle.head_kit.specs.Calls.{operation_at}
use Rattle.head_kit.proofs.Named.{named_here}
use Rattle.back_mach.specs.Routines.{ops_of}
use Rattle.back_mach.specs.Seeking.{has_id, is_asked}
use Rattle.back_mach.proofs.seek.seek.Goals as goal

pub returns-then-has_id : goal.returns-then-has_id
returns-then-has_id c =
    let here = named_here ops_of (has_id c.args.id) (is_asked c.args.id) plain_interface c.loop-i.first c.loop-i.i-index
    c.args.interfaces.now c.i-item.result c.loop-i-test.true c.i-item.is (sym c.has_id.ensures ∙ c.if-has_id.true) in
    c.operation_at.ensures ∙ ap operation_at c.place_of.ensures ∙ sym here ∙ sym c.loop-i.invariant.left
