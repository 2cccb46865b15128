use Rattle.std.proofs.Common.{rules}
use Rattle.std.proofs.lemmas.List.Sorted.{answers_always}
use Rattle.demux.proofs.Searched.{searched}
use Rattle.demux.proofs.edges.Edges.search.Goals as goal

-- the closure gives a pair's word, and the slice is the pairs
pub returns : goal.returns
returns c =
    let facts = c.binary_search_by_key.ensures in
    let by_word = facts.position (λ pair. pair.0) (answers_always _ _ _ (λ f a r g called. search rules)) in
    rw (← c.self.view_is, ← c.deref.ensures.value)
    (searched _ (rw c.deref.ensures.value c.self.invariant) c.args.word _ facts.bound by_word)
