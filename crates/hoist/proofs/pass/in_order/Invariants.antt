use Rattle.std.proofs.Common.{◌≡◌, ◌++◌, length}
use Rattle.std.specs.Prelude.{reverse}
use Rattle.hoist.proofs.pass.in_order.Given as goal

abbrev pub invariant-loop-op : goal.invariant-loop-op
invariant-loop-op l = l.ops ++ reverse l.rest.items ≡ reverse l.fn.back.items

abbrev pub decreases-loop-op : goal.decreases-loop-op
decreases-loop-op l = length l.rest.items
