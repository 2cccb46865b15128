-- Where a word leads by a list of words, and what an edit of the list does to it.
use Rattle.std.proofs.Common.{◌≡◌, ℕ, zero, suc, ◌<◌, eqb, ◌≢◌, [], ◌∷◌, length, get_or, set, if◌then◌else◌, Some, None, refl, arith}
use Rattle.std.specs.List.{insert}
use Rattle.std.proofs.lemmas.Bool.Decides.{nat_tests}
use Rattle.demux.specs.Edges.{Pairs, goal_of, word_in, IsAt}

-- no pair before place i has the word
abbrev pub NoneBefore : Pairs → ℕ → ℕ → Type 0
NoneBefore l k i = (j : ℕ) → j < i → word_in l j ≢ k

-- `goal_of` on new answers v at the word k, and as on old at any other
abbrev pub LeadsAfter : Pairs → Pairs → ℕ → ℕ → Type 0
LeadsAfter old new k v = (q : ℕ) → goal_of new q ≡ (if eqb k q then Some v else goal_of old q)

-- no pair of the tail has the word either
none_before_tail : (x : ℕ × ℕ) (l : Pairs) (k i : ℕ) → NoneBefore (x ∷ l) k (suc i) → NoneBefore l k i
none_before_tail x l k i none_is j lt = none_is (suc j) (omega arith)

-- in the tail, a pair is one place lower
at_in_tail : (x : ℕ × ℕ) (l : Pairs) (k i : ℕ) → IsAt (x ∷ l) k (suc i) → IsAt l k i
at_in_tail x l k i is_at = record { in_range = omega (arith, is_at.in_range); has_word = is_at.has_word }

-- a word that no pair has leads nowhere
pub goal_absent : (l : Pairs) (k : ℕ) → NoneBefore l k (length l) → goal_of l k ≡ None
goal_absent [] k none_is = refl
goal_absent (x ∷ l) k none_is = grind (arith, nat_tests, none_is 0 (omega arith), goal_absent l k (none_before_tail x l k _ none_is))

-- the first pair that has the word says where it leads
pub goal_present : (l : Pairs) (k i : ℕ) → IsAt l k i → NoneBefore l k i → goal_of l k ≡ Some (get_or l i (0, 0)).1
goal_present [] k i is_at none_is = absurd (omega (arith, is_at.in_range))
goal_present (x ∷ l) k zero is_at none_is = grind (arith, nat_tests, is_at.has_word)
goal_present (x ∷ l) k (suc i) is_at none_is =
    let rest = goal_present l k i (at_in_tail x l k i is_at) (none_before_tail x l k i none_is) in
    grind (arith, nat_tests, none_is 0 (omega arith), rest)

-- writing over the first pair that has the word lets it lead elsewhere
pub goal_set : (l : Pairs) (k v i : ℕ) → IsAt l k i → NoneBefore l k i → LeadsAfter l (set l i (k, v)) k v
goal_set [] k v i is_at none_is q = absurd (omega (arith, is_at.in_range))
goal_set (x ∷ l) k v zero is_at none_is q = grind (arith, nat_tests, is_at.has_word)
goal_set (x ∷ l) k v (suc i) is_at none_is q =
    let rest = goal_set l k v i (at_in_tail x l k i is_at) (none_before_tail x l k i none_is) q in
    grind (arith, nat_tests, none_is 0 (omega arith), rest)

-- so does a new pair before any pair that has the word
pub goal_inserted : (l : Pairs) (k v i : ℕ) → NoneBefore l k i → LeadsAfter l (insert l i (k, v)) k v
goal_inserted l k v zero none_is q = refl
goal_inserted [] k v (suc i) none_is q = refl
goal_inserted (x ∷ l) k v (suc i) none_is q =
    let rest = goal_inserted l k v i (none_before_tail x l k i none_is) q in
    grind (arith, nat_tests, none_is 0 (omega arith), rest)
