use Rattle.std.proofs.Common.{◌≡◌, ◌≤◌, ◌-◌, None, replicate, vec_len}
use Rattle.stub_compare.proofs.compare_calls.unknown.Given as goal

-- the nodes so far
abbrev pub invariant-loop-nodes : goal.invariant-loop-nodes
invariant-loop-nodes l = record { free : l.nodes.items ≡ replicate (vec_len l.nodes) None; few : vec_len l.nodes ≤ l.n }

abbrev pub decreases-loop-nodes : goal.decreases-loop-nodes
decreases-loop-nodes l = l.n - vec_len l.nodes
