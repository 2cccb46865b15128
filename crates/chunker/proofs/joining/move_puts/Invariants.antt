use Rattle.std.proofs.Common.{◌≡◌, ◌++◌, map, length}
use Rattle.std.specs.Vec.Iter.{into_iter_items, into_iter_len}
use Rattle.chunker.specs.Chunked.{moved}
use Rattle.chunker.proofs.joining.move_puts.Given as goal

-- what is moved, and what is left
abbrev pub invariant-loop-put : goal.invariant-loop-put
invariant-loop-put l = record {
  next : (goal.iterator-loop-put).can_next l.put-iterator;
  finite : (goal.iterator-loop-put).is_finite l.put-iterator;
  long : into_iter_len l.put-iterator ≡ length (into_iter_items l.put-iterator);
  made : l.out ++ map (moved l.by) (into_iter_items l.put-iterator) ≡ l.fn.out ++ map (moved l.by) l.fn.puts;
}
