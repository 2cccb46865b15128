use Rattle.std.proofs.Common.{◌≡◌, ◌++◌, length}
use Rattle.std.specs.Vec.Iter.{into_iter_items, into_iter_len}
use Rattle.stub_codes.proofs.sending.put_all.Given as goal

-- what is put, and what is left
abbrev pub invariant-loop-op : goal.invariant-loop-op
invariant-loop-op l = record {
  next : (goal.iterator-loop-op).can_next l.op-iterator;
  finite : (goal.iterator-loop-op).is_finite l.op-iterator;
  long : into_iter_len l.op-iterator ≡ length (into_iter_items l.op-iterator);
  made : l.out ++ into_iter_items l.op-iterator ≡ l.fn.out ++ l.fn.ops;
}
