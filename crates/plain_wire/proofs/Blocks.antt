-- Octets read one by one are read as a block, by induction on how many they are.
use Rattle.std.proofs.Common.{◌≡◌, ℕ, zero, suc, ◌+◌, ◌<◌, ◌≤◌, ℤ, pos, List, [], ◌∷◌, length, map, take, drop, Some, None, Bool, true, false, cond, not, ltb, refl, sym, ap, ◌∙◌, add-zero, arith}
use Rattle.std.specs.Prelude.{◌==◌}
use Rattle.std.specs.List.{position, position_or_len}
use Rattle.std.proofs.lemmas.Bool.{lt-ltb, ltb-true, ltb-false}
use Rattle.std.proofs.lemmas.Bool.Decides.{Decides-eqb, Decides-not}
use Rattle.wire_def.specs.declared.fault.FaultKind.{FaultKind}
use Rattle.wire_def.specs.declared.fault.FaultKind.TheVariants.{Short, BadText}
use Rattle.wire_def.specs.Grammar.{Reading, Reader, got, stop, then_on, map_got, times}
use Rattle.wire_def.specs.Arrays.{read_octet}
use Rattle.plain_wire.specs.Readers.{any_octet, any_letter}

pub octets_there : (n p : ℕ) (o : List ℕ) → n ≤ length o → times any_octet n p o ≡ got (map pos (take n o)) (p + n) (drop n o)
unfolding read_octet
octets_there zero p o h = rw add-zero refl
octets_there (suc n) p [] h = absurd (omega arith)
octets_there (suc n) p (b ∷ o) h =
    rw (octets_there n (p + 1) o (omega arith)) (ap (λ m. got (pos b ∷ map pos (take n o)) m (drop n o)) (omega arith))

pub octets_cut : (n p : ℕ) (o : List ℕ) → length o < n → times any_octet n p o ≡ stop Short (p + length o)
unfolding read_octet
octets_cut zero p o h = absurd (omega arith)
octets_cut (suc n) p [] h = rw add-zero refl
octets_cut (suc n) p (b ∷ o) h = rw (octets_cut n (p + 1) o (omega arith)) (ap (λ m. stop Short m) (omega arith))

-- an octet of a text is not 0
not_zero : (b : ℕ) → ltb 0 b ≡ not (b == 0)
not_zero zero = refl
not_zero (suc b) =
    let differs : suc b ≡ 0 → ⊥ = λ (same : suc b ≡ 0). cc in
    lt-ltb 0 (suc b) (omega arith) ∙ sym ((Decides-not (suc b == 0) (Decides-eqb (suc b) 0)).1 differs)

abbrev is_zero : ℕ → Bool
is_zero b = b == 0

-- one more letter, as the next octet is 0 or not
zero_here : (t : Bool) (b p m l : ℕ) (o : List ℕ) (after : Reader FaultKind (List ℤ)) → cond (not t) (1 + m) 0 < suc l
    → (m < l → after (p + 1) o ≡ stop BadText (p + 1 + m))
    → then_on (cond (not t) (got (pos b) (p + 1) o) (stop BadText p)) (λ x q rest. map_got (λ xs. x ∷ xs) (after q rest))
    ≡ stop BadText (p + cond (not t) (1 + m) 0)
zero_here true b p m l o after h more = rw add-zero refl
zero_here false b p m l o after h more = rw (more (omega arith)) (ap (λ (n : ℕ). stop BadText n) (omega arith))

zero_stops : (n p : ℕ) (o : List ℕ) → position_or_len is_zero (take n o) < length (take n o)
    → times any_letter n p o ≡ stop BadText (p + position_or_len is_zero (take n o))
unfolding read_octet
zero_stops zero p o h = absurd (omega arith)
zero_stops (suc n) p [] h = absurd (omega arith)
zero_stops (suc n) p (b ∷ o) h =
    rw not_zero (zero_here (b == 0) b p (position_or_len is_zero (take n o)) (length (take n o)) o (times any_letter n) h
    (λ k. zero_stops n (p + 1) o k))

none_here : (t : Bool) (b p m l : ℕ) (o : List ℕ) (after : Reader FaultKind (List ℤ)) (same : Reading FaultKind (List ℤ))
    → suc l ≤ cond (not t) (1 + m) 0 → (l ≤ m → after (p + 1) o ≡ same)
    → then_on (cond (not t) (got (pos b) (p + 1) o) (stop BadText p)) (λ x q rest. map_got (λ xs. x ∷ xs) (after q rest))
    ≡ map_got (λ xs. pos b ∷ xs) same
none_here true b p m l o after same h more = absurd (omega arith)
none_here false b p m l o after same h more = rw (more (omega arith)) refl

no_zero : (n p : ℕ) (o : List ℕ) → length (take n o) ≤ position_or_len is_zero (take n o) → times any_letter n p o ≡ times any_octet n p o
unfolding read_octet
no_zero zero p o h = refl
no_zero (suc n) p [] h = refl
no_zero (suc n) p (b ∷ o) h =
    rw not_zero (none_here (b == 0) b p (position_or_len is_zero (take n o)) (length (take n o)) o (times any_letter n)
    (times any_octet n (p + 1) o) h (λ k. no_zero n (p + 1) o k))

found_at : (t : Bool) (m i : ℕ) → cond t (Some m) None ≡ Some i → (t ≡ true) × (m ≡ i)
found_at true m i h = (refl, cc)
found_at false m i h = absurd cc

found_none : (t : Bool) (m : ℕ) → cond t (Some m) None ≡ None → t ≡ false
found_none true m h = absurd cc
found_none false m h = refl

pub letter_zero : (n p : ℕ) (o : List ℕ) (i : ℕ) → position is_zero (take n o) ≡ Some i → times any_letter n p o ≡ stop BadText (p + i)
letter_zero n p o i h =
    let f = found_at (ltb (position_or_len is_zero (take n o)) (length (take n o))) (position_or_len is_zero (take n o)) i h in
    rw (← f.1) (zero_stops n p o (ltb-true _ _ f.0))

pub letters_only : (n p : ℕ) (o : List ℕ) → position is_zero (take n o) ≡ None → times any_letter n p o ≡ times any_octet n p o
letters_only n p o h =
    no_zero n p o
    (ltb-false _ _ (found_none (ltb (position_or_len is_zero (take n o)) (length (take n o))) (position_or_len is_zero (take n o)) h))

pub ruleset blocks = (octets_there, octets_cut, letter_zero, letters_only)
