use Rattle.std.proofs.Common.{◌≡◌, ◌+◌, ◌*◌, drop}
use Rattle.mint.specs.Types.{type_at, unfolded}
use Rattle.mint.specs.Types.{arms_at as mint_arms}
use Rattle.cast_stub.specs.Block.{code_seen, cases_seen}
use Rattle.hoist.specs.Bound.{bound, cases_bound}
use Rattle.hoist.proofs.bounding.+bound.Given as goal

abbrev pub invariant-bound-loop-i : goal.invariant-bound-loop-i
invariant-bound-loop-i l = l.sum ≡ bound (type_at l.mint l.id) (code_seen (drop l.i l.list))

abbrev pub invariant-arms_bound-loop-i : goal.invariant-arms_bound-loop-i
invariant-arms_bound-loop-i l = l.most
    ≡ cases_bound (mint_arms (unfolded l.mint) (drop l.i l.arms) l.fn.other) (cases_seen (drop l.i l.bodies) l.last)

abbrev pub decreases-bound : goal.decreases-bound
decreases-bound l = 8 * l.id + 6

abbrev pub decreases-op_bound : goal.decreases-op_bound
decreases-op_bound l = 8 * l.id + 5

abbrev pub decreases-loop_bound : goal.decreases-loop_bound
decreases-loop_bound l = 8 * l.id + 4

abbrev pub decreases-some_bound : goal.decreases-some_bound
decreases-some_bound l = 8 * l.id + 4

abbrev pub decreases-switch_bound : goal.decreases-switch_bound
decreases-switch_bound l = 8 * l.id + 4

abbrev pub decreases-arms_bound : goal.decreases-arms_bound
decreases-arms_bound l = 8 * l.id + 3

abbrev pub decreases-last_bound : goal.decreases-last_bound
decreases-last_bound l = 8 * l.id + 2

abbrev pub decreases-arm_bound : goal.decreases-arm_bound
decreases-arm_bound l = 8 * l.id + 2

abbrev pub decreases-turn_bound : goal.decreases-turn_bound
decreases-turn_bound l = 8 * l.id + 3
