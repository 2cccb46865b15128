use Rattle.std.proofs.Common.{◌∙◌, sym}
use Rattle.aoi.proofs.Apart.{grown}
use Rattle.aoi.proofs.units.Unit.add_interface.Goals as goal

pub invariant_of-self-2 : goal.invariant_of-self-2
invariant_of-self-2 c =
    grown c.self.inside.interfaces c.push.new.self c.as_slice.result.now c.args.i c.len.result c.len-else-len-ge-MOST_INTERFACES.result
    c.self.invariant.1 c.in_ok-push.ensures.ok c.as_slice.ensures (sym c.is_twice.ensures ∙ c.if-is_twice.false)
    c.len.ensures c.if-len-ge-MOST_INTERFACES.false c.len-else-len-ge-MOST_INTERFACES.ensures c.if-len-gt-MOST_OPERATIONS.false
