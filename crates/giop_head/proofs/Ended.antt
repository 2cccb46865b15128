-- Octets that have one octet 0, which is the last, by induction on the octets.
use Rattle.std.proofs.Common.{◌≡◌, inl, inr, ℕ, zero, suc, ◌-◌, ◌<◌, List, [], ◌∷◌, ◌++◌, length, Some, None, Bool, true, false, cond, ltb, refl, ap, arith}
use Rattle.std.specs.Prelude.{◌==◌}
use Rattle.std.specs.List.{position, position_or_len}
use Rattle.std.proofs.lemmas.Bool.{ltb-true, ltb-false, eq-eqb, ne_eqb, cases_eq}
use Rattle.giop_head.specs.Items.{is_ended, HasNoZero}

-- ---- such octets are a text and the 0

pub ended_parts : (o : List ℕ) → is_ended o ≡ true → (s : List ℕ) × (o ≡ s ++ (0 ∷ [])) × HasNoZero s
ended_parts [] h = absurd cc
ended_parts (zero ∷ []) h = ([], refl, tt)
ended_parts (zero ∷ (b ∷ o)) h = absurd cc
ended_parts (suc b ∷ o) h = let m = ended_parts o h in (suc b ∷ m.0, ap (λ z. suc b ∷ z) m.1, (omega arith, m.2))

pub parts_ended : (s : List ℕ) → HasNoZero s → is_ended (s ++ (0 ∷ [])) ≡ true
parts_ended [] h = refl
parts_ended (zero ∷ s) h = absurd (omega (arith, h.0))
parts_ended (suc b ∷ s) h = parts_ended s h.1

-- ---- where the first octet 0 is

abbrev is_zero : ℕ → Bool
is_zero b = b == 0

no_zero : (b : ℕ) → is_zero (suc b) ≡ false
no_zero b = ne_eqb (suc b) 0 (λ e. omega (arith, e))

ended_at : (o : List ℕ) → suc (position_or_len is_zero o) ≡ length o → is_ended o ≡ true
ended_at [] e = absurd (omega (arith, e))
ended_at (zero ∷ []) e = refl
ended_at (zero ∷ (b ∷ o)) e = absurd (omega (arith, e))
ended_at (suc b ∷ o) e = ended_at o (omega (arith, rw no_zero at e))

not_ended : (o : List ℕ) → (suc (position_or_len is_zero o) ≡ length o → ⊥) → is_ended o ≡ false
not_ended [] h = refl
not_ended (zero ∷ []) h = absurd (h refl)
not_ended (zero ∷ (b ∷ o)) h = refl
not_ended (suc b ∷ o) h = not_ended o (λ e. h (rw no_zero (omega (arith, e))))

found_at : (t : Bool) (m i : ℕ) → cond t (Some m) None ≡ Some i → (t ≡ true) × (m ≡ i)
found_at true m i h = (refl, cc)
found_at false m i h = absurd cc

found_none : (t : Bool) (m : ℕ) → cond t (Some m) None ≡ None → t ≡ false
found_none true m h = absurd cc
found_none false m h = refl

pub zero_within : (o : List ℕ) (i : ℕ) → position is_zero o ≡ Some i → i < length o
zero_within o i h =
    let f = found_at (ltb (position_or_len is_zero o) (length o)) (position_or_len is_zero o) i h in
    omega (arith, ltb-true _ _ f.0, f.1)

pub zero_last : (o : List ℕ) (i : ℕ) → position is_zero o ≡ Some i → is_ended o ≡ (length o - i == 1)
zero_last o i h =
    let f = found_at (ltb (position_or_len is_zero o) (length o)) (position_or_len is_zero o) i h in
    let below = ltb-true _ _ f.0 in
    elim (cases_eq (length o - i) 1) [
      | inl is ↦ rw (eq-eqb _ _ is) (ended_at o (omega (arith, is, below, f.1)))
      | inr isnt ↦ rw (ne_eqb _ _ isnt) (not_ended o (λ e. isnt (omega (arith, e, below, f.1))))
    ]

pub zero_nowhere : (o : List ℕ) → position is_zero o ≡ None → is_ended o ≡ false
zero_nowhere o h =
    let past = ltb-false _ _ (found_none (ltb (position_or_len is_zero o) (length o)) (position_or_len is_zero o) h) in
    not_ended o (λ e. omega (arith, e, past))

pub ruleset ends = (zero_within, zero_last, zero_nowhere)
