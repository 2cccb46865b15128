use Rattle.std.proofs.Common.{◌≡◌, ◌≤◌, ◌+◌, ◌-◌, ◌*◌, suc}
use Rattle.idl_exprs.specs.Readers.{within_at, climb, chain_on, operator_at}
use Rattle.idl_exprs.proofs.expressions.+climbing.Given as goal

abbrev pub invariant-climb-chain : goal.invariant-climb-chain
invariant-climb-chain l = (climb (within_at l.below) l.below l.language l.angle l.loose l.fn.tokens
    ≡ chain_on (within_at l.below l.language l.angle (l.loose - 1)) (operator_at l.language l.angle (l.loose - 1)) (suc l.below)
    (suc l.below - l.counter) (l.tree, l.height) l.rest)
    × (l.height ≤ l.below + 1)

abbrev pub decreases-within : goal.decreases-within
decreases-within l = 16 * l.levels

abbrev pub decreases-climb : goal.decreases-climb
decreases-climb l = 16 * l.below + 2 + l.loose

abbrev pub decreases-primary : goal.decreases-primary
decreases-primary l = 16 * l.below + 1
