use Rattle.std.proofs.Common.{◌≡◌, ◌++◌, [], map, length}
use Rattle.std.specs.Vec.Iter.{into_iter_items, into_iter_len}
use Rattle.cast_stub.specs.Block.{code_seen}
use Rattle.chunker.specs.Chunked.{chunked}
use Rattle.chunker.specs.Phases.{unknown}
use Rattle.chunker.proofs.pass.chunk_subs.Given as goal

-- what is made, and what is left
abbrev pub invariant-loop-sub : goal.invariant-loop-sub
invariant-loop-sub l = record {
  next : (goal.iterator-loop-sub).can_next l.sub-iterator;
  finite : (goal.iterator-loop-sub).is_finite l.sub-iterator;
  long : into_iter_len l.sub-iterator ≡ length (into_iter_items l.sub-iterator);
  made : map code_seen l.made ++ map (λ s. chunked unknown 0 [] (code_seen s)) (into_iter_items l.sub-iterator)
      ≡ map (λ s. chunked unknown 0 [] (code_seen s)) l.fn.subs;
}
