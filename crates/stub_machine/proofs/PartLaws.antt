-- Parts of a value, and of its tree, by induction on the list of values.
use Rattle.std.proofs.Common.{◌≡◌, ℕ, zero, suc, ◌+◌, ◌<◌, List, [], ◌∷◌, length, drop, get_or, Option, Some, None, option_map, slice_get, Bor, refl, sym, ap, ◌∙◌, add-one, arith}
use Rattle.std.specs.Option.{option_copied}
use Rattle.std.proofs.Math.Seq.{drop-cons}
use Rattle.mint.specs.declared.value.Value.{Value}
use Rattle.mint.specs.declared.value.Value.TheOpen.{Value-F}
use Rattle.mint.specs.declared.value.Value.TheVariants.{Items, rolls-Items}
use Rattle.mint.specs.declared.value.Value.TheFolds.{fold-roll-Value}
use Rattle.mint.specs.Values.{Val, items, seen, seen_level, all_seen}
use Rattle.mint.proofs.Fitting.{count-all_seen}
use Rattle.cast_stub.specs.Parts.{on_some, field, in_group, at, IsThere}

pub seen-Items : (vs : List Value) → seen (Items vs) ≡ items (all_seen vs)
seen-Items vs = ap seen (sym (rolls-Items vs)) ∙ fold-roll-Value Val seen_level (Value-F.Items vs)

field-all_seen : (vs : List Value) (n : ℕ) → field n (all_seen vs) ≡ option_map seen (slice_get vs n)
field-all_seen [] n = refl
field-all_seen (v ∷ vs) zero = refl
field-all_seen (v ∷ vs) (suc n) = field-all_seen vs n

copied : (r : Option (Bor Value)) → option_map (λ w. seen w.now) r ≡ option_map seen (option_copied r)
copied None = refl
copied (Some b) = refl

pub field_found : (vs : List Value) (n : ℕ) (r : Option (Bor Value)) → option_copied r ≡ slice_get vs n
    → option_map (λ w. seen w.now) r ≡ field n (all_seen vs)
field_found vs n r e = copied r ∙ ap (option_map seen) e ∙ sym (field-all_seen vs n)

-- a field that is there has a place among the values
pub place_there : (vs : List Value) (n : ℕ) → IsThere (field n (all_seen vs)) → n < length vs
place_there [] n there = absurd there
place_there (v ∷ vs) zero there = omega arith
place_there (v ∷ vs) (suc n) there = let k = place_there vs n there in omega (arith, k)

-- and is the value at it
pub field_there : (vs : List Value) (n : ℕ) (w : Value) → IsThere (field n (all_seen vs)) → w ≡ get_or vs n w
    → Some (seen w) ≡ field n (all_seen vs)
field_there [] n w there e = absurd there
field_there (v ∷ vs) zero w there e = ap (λ x. Some (seen x)) e
field_there (v ∷ vs) (suc n) w there e = field_there vs n w there e

-- one more field of a path
pub at-drop : (p : List ℕ) (i : ℕ) (v : Val) → i < length p → at (drop i p) v ≡ on_some (in_group (get_or p i 0) v) (at (drop (i + 1) p))
at-drop p i v h = rw (add-one, drop-cons p i 0) refl

whole_again : (o : Option Val) → on_some o (at []) ≡ o
whole_again None = refl
whole_again (Some v) = refl

-- a path of one field
pub at_one : (p : List ℕ) (v : Val) → length p ≡ 1 → at p v ≡ in_group (get_or p 0 0) v
at_one [] v h = absurd (omega (arith, h))
at_one (n ∷ []) v h = whole_again (in_group n v)
at_one (n ∷ m ∷ p) v h = absurd (omega (arith, h))

within_again : (o : Option Val) (n : ℕ) → on_some o (at (n ∷ [])) ≡ on_some o (in_group n)
within_again None n = refl
within_again (Some v) n = whole_again (in_group n v)

-- a path of a field within a field
pub at_two : (p : List ℕ) (v : Val) → length p ≡ 2 → at p v ≡ on_some (in_group (get_or p 0 0) v) (in_group (get_or p 1 0))
at_two [] v h = absurd (omega (arith, h))
at_two (n ∷ []) v h = absurd (omega (arith, h))
at_two (n ∷ m ∷ []) v h = within_again (in_group n v) m
at_two (n ∷ m ∷ k ∷ p) v h = absurd (omega (arith, h))

pub ruleset parts = (count-all_seen, field_found, at-drop, at_one, at_two)
