use Rattle.std.proofs.Common.{◌≡◌, [], length}
use Rattle.std.specs.Vec.Iter.{into_iter_items, into_iter_len}
use Rattle.chunker.specs.Chunked.{consts_joined}
use Rattle.chunker.specs.Joins.{awaits}
use Rattle.chunker.proofs.joining.join_puts.Given as goal

-- what is joined, and what is left
abbrev pub invariant-loop-put : goal.invariant-loop-put
invariant-loop-put l = record {
  next : (goal.iterator-loop-put).can_next l.put-iterator;
  finite : (goal.iterator-loop-put).is_finite l.put-iterator;
  long : into_iter_len l.put-iterator ≡ length (into_iter_items l.put-iterator);
  made : awaits l.joining (into_iter_items l.put-iterator) ≡ consts_joined 0 [] l.fn.puts;
}
