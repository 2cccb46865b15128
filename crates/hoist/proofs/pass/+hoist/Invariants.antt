use Rattle.std.proofs.Common.{◌≡◌, ◌+◌, ◌*◌, length}
use Rattle.std.proofs.Math.ListN.{take, drop}
use Rattle.std.specs.Vec.Iter.{into_iter_items, into_iter_len}
use Rattle.mint.specs.Types.{type_at, unfolded}
use Rattle.hoist.specs.Seen.{AreHoisted, after, span_roles}
use Rattle.hoist.proofs.Visited.{AreVisited}
use Rattle.hoist.proofs.pass.+hoist.Given as goal

abbrev pub decreases-hoist_ops : goal.decreases-hoist_ops
decreases-hoist_ops l = 8 * l.id + 6

abbrev pub decreases-hoist_op : goal.decreases-hoist_op
decreases-hoist_op l = 8 * l.id + 5

abbrev pub decreases-each_body : goal.decreases-each_body
decreases-each_body l = 8 * l.id + 4

abbrev pub decreases-some_body : goal.decreases-some_body
decreases-some_body l = 8 * l.id + 4

abbrev pub decreases-switch_bodies : goal.decreases-switch_bodies
decreases-switch_bodies l = 8 * l.id + 4

abbrev pub decreases-hoist_cases : goal.decreases-hoist_cases
decreases-hoist_cases l = 8 * l.id + 3

abbrev pub decreases-hoist_case : goal.decreases-hoist_case
decreases-hoist_case l = 8 * l.id + 2

abbrev pub decreases-hoist_last : goal.decreases-hoist_last
decreases-hoist_last l = 8 * l.id + 3

abbrev pub invariant-hoist_ops-loop-op : goal.invariant-hoist_ops-loop-op
invariant-hoist_ops-loop-op l = AreVisited (span_roles l.classes.enc) (type_at l.mint l.id) l.fn.ops l.rest.items
    (after l.back.items l.ahead)

abbrev pub decreases-hoist_ops-loop-op : goal.decreases-hoist_ops-loop-op
decreases-hoist_ops-loop-op l = length l.rest.items

-- what is hoisted, and what is left
abbrev pub invariant-hoist_cases-loop-case : goal.invariant-hoist_cases-loop-case
invariant-hoist_cases-loop-case l = record {
  next : (goal.iterator-hoist_cases-loop-case).can_next l.case-iterator;
  finite : (goal.iterator-hoist_cases-loop-case).is_finite l.case-iterator;
  long : into_iter_len l.case-iterator ≡ length (into_iter_items l.case-iterator);
  left : drop (length l.bodies) l.fn.cases ≡ into_iter_items l.case-iterator;
  so_far : AreHoisted l.fn.classes.enc (unfolded l.mint) (take (length l.bodies) l.arms) (take (length l.bodies) l.fn.cases) l.bodies;
}
