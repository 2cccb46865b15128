use Rattle.std.proofs.Common.{◌≡◌, ◌≤◌, ◌<◌, ◌+◌, min, drop, nat_lt, length, sum_by}
use Rattle.std.specs.List.{list_any, AllByRecursion}
use Rattle.pres.specs.declared.ops.Op.{Op}
use Rattle.pres.specs.Sizes.{nodes_of}
use Rattle.pres.proofs.faults.is_over.Given as goal

-- none so far, and the sum up to the limit
abbrev pub invariant-loop-op : goal.invariant-loop-op
invariant-loop-op l = record {
  none : list_any (λ o. nat_lt 65536 (nodes_of l.sizes o)) l.ops
      ≡ list_any (λ o. nat_lt 65536 (nodes_of l.sizes o)) (drop l.op-index l.ops);
  total : min (l.total + sum_by (nodes_of l.sizes) (drop l.op-index l.ops)) 262145 ≡ min (sum_by (nodes_of l.sizes) l.ops) 262145;
  bound : l.total ≤ 262145;
  left : AllByRecursion (λ (o : Op). (o.request < length l.sizes) × (o.reply < length l.sizes)) (drop l.op-index l.ops);
}
