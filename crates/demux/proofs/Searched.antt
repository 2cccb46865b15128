-- What a search finds among words that rise, and what an edit at that place does.
use Rattle.std.proofs.Common.{◌≡◌, ℕ, ◌+◌, ◌-◌, ◌<◌, ◌≤◌, length, get_or, set, Some, None, Result, Ok, Err, IfOk, IfErr, sym, ap, subst, arith}
use Rattle.std.specs.List.{insert}
use Rattle.std.specs.List.Sorted.{IsSearchInRange, IsBinarySearchResult, IsNonDecreasingBy}
use Rattle.std.specs.Ordering.{nat_cmp, ordering_index}
use Rattle.std.proofs.lemmas.Cmp.{ranked}
use Rattle.std.proofs.lemmas.List.Sorted.{IsNonDecreasingBy-from_default}
use Rattle.std.proofs.lemmas.List.Edits.{length-insert, get_or-insert_below, get_or-insert_at, get_or-insert_above}
use Rattle.std.proofs.lemmas.Bool.Decides.{nat_tests}
use Rattle.std.proofs.lemmas.Grind.{common_steps}
use Rattle.demux.specs.Edges.{Pairs, goal_of, word_in, IsRising, IsAt, IsGapFor}
use Rattle.demux.proofs.Leading.{NoneBefore, LeadsAfter, goal_absent, goal_present, goal_set, goal_inserted}

module _ (l : Pairs) (sorted : IsRising l) (k : ℕ) where
  -- the comparisons with k rise along the list, as a binary search asks
  comparisons_rise : IsNonDecreasingBy (λ pair. ordering_index (nat_cmp pair.0 k)) l
  comparisons_rise = IsNonDecreasingBy-from_default (λ pair. ordering_index (nat_cmp pair.0 k)) l (0, 0) (λ i j le in_range.
      let words_rise : word_in l i ≤ word_in l j = grind (arith, sorted i j, λ (same : i ≡ j). ap (word_in l) same) in
      grind (arith, nat_tests))

  -- a binary search by word ends at the word, or at the gap for it
  pub searched : (r : Result ℕ ℕ) → IsSearchInRange r (length l) → IsBinarySearchResult (λ pair. nat_cmp pair.0 k) l r
      → record { found : IfOk r (IsAt l k); absent : IfErr r (IsGapFor l k) }
  searched (Ok at) in_range equal = record {
    found = record { in_range = in_range; has_word = ranked _ k _ (sym (equal (0, 0))) };
    absent = tt;
  }
  searched (Err at) in_range parted = record {
    found = tt;
    absent = record {
      in_range = in_range;
      smaller_before = λ j lt. ranked _ k _ (sym ((parted comparisons_rise).0 j (0, 0) (omega arith) lt));
      greater_after = λ j le lt. ranked _ k _ (sym ((parted comparisons_rise).1 j (0, 0) le lt));
    };
  }

module _ (l : Pairs) (sorted : IsRising l) (k at : ℕ) (is_at : IsAt l k at) where
  -- the words before the place are smaller, so none is k
  none_before_at : NoneBefore l k at
  none_before_at j lt same = omega (arith, sorted j at lt is_at.in_range, is_at.has_word)

  -- the word leads by the pair at its place
  pub goal_at : goal_of l k ≡ Some (get_or l at (0, 0)).1
  goal_at = goal_present l k at is_at none_before_at

  -- writing over its pair changes that word alone
  pub leads_set : (v : ℕ) → LeadsAfter l (set l at (k, v)) k v
  leads_set v = goal_set l k v at is_at none_before_at

  -- and keeps the order, since every word stays
  pub rising_set : (v : ℕ) → IsRising (set l at (k, v))
  rising_set v i j lt in_range = grind (arith, common_steps, sorted i j, sorted i at, sorted at j, is_at.in_range, is_at.has_word)

module _ (l : Pairs) (k at : ℕ) (gap : IsGapFor l k at) where
  -- a word that has a gap leads nowhere
  pub goal_in_gap : goal_of l k ≡ None
  goal_in_gap = goal_absent l k (λ j lt same. grind (arith, gap.smaller_before j, gap.greater_after j))

  -- a new pair in the gap changes that word alone
  pub leads_inserted : (v : ℕ) → LeadsAfter l (insert l at (k, v)) k v
  leads_inserted v = goal_inserted l k v at (λ j lt same. omega (arith, gap.smaller_before j lt))

  -- it keeps the order: each new word is an old one below the gap, k at it, or an old one moved up by one
  pub rising_inserted : (v : ℕ) → IsRising l → IsRising (insert l at (k, v))
  rising_inserted v sorted i j lt in_range =
      let new = insert l at (k, v) in
      let key = λ (x : ℕ × ℕ). x.0 in
      let length_new = length-insert l at (k, v) gap.in_range in
      let word_below : (i : ℕ) → i < at → word_in new i ≡ word_in l i =
      λ i below. ap key (get_or-insert_below l at (k, v) (0, 0) i below gap.in_range) in
      let word_here : (i : ℕ) → i ≡ at → word_in new i ≡ k =
      λ i here. rw here (ap key (get_or-insert_at l at (k, v) (0, 0) gap.in_range)) in
      let word_above : (i : ℕ) → at < i → word_in new i ≡ word_in l (i - 1) =
      λ i above. subst (λ q. word_in new q ≡ word_in l (i - 1)) {x = i - 1 + 1} (omega arith)
      (ap key (get_or-insert_above l at (k, v) (0, 0) (i - 1) (omega arith) gap.in_range)) in
      grind (
        arith,
        word_below i,
        word_here i,
        word_above i,
        word_below j,
        word_here j,
        word_above j,
        sorted i j,
        sorted i (j - 1),
        sorted (i - 1) (j - 1),
        gap.smaller_before i,
        gap.greater_after (j - 1),
      )
