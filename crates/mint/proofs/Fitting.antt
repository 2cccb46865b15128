-- One more field, element or arm, by induction on the list of values.
use Rattle.std.proofs.Common.{Bool, IsTrue, ◌↔◌, Some, ◌≡◌, ℕ, suc, List, [], ◌∷◌, length, refl, ap}
use Rattle.mint.specs.declared.kind.Count.{Count}
use Rattle.mint.specs.Kinds.{Allows}
use Rattle.mint.specs.Values.{Val, count, vals_of, all_seen, items, items_in}
use Rattle.mint.specs.Types.{Ty, items_type, fields_at}
use Rattle.mint.specs.Typed.{IsOf, AreOf, Each}
use Rattle.mint.specs.declared.value.Value.{Value}

pub count-vals_of : (vs : List Val) → count (vals_of vs) ≡ length vs
count-vals_of [] = refl
count-vals_of (v ∷ vs) = ap suc (count-vals_of vs)

pub count-all_seen : (vs : List Value) → count (all_seen vs) ≡ length vs
count-all_seen [] = refl
count-all_seen (v ∷ vs) = ap suc (count-all_seen vs)

-- as many values as fields
pub are_many : (us : List Ty) (is : List ℕ) (vs : List Value) → AreOf (fields_at us is) (all_seen vs) → length is ≡ length vs
are_many us [] [] h = refl
are_many us [] (v ∷ vs) h = absurd h
are_many us (i ∷ is) [] h = absurd h
are_many us (i ∷ is) (v ∷ vs) h = ap suc (are_many us is vs h.1)

pub ruleset counting = (count-all_seen, are_many)

pub items_are : (ty inner : Ty) (c : Count) (b : Bool) (vs : List Value) (v : Val) → ty ≡ items_type c inner
    → Some (all_seen vs) ≡ items_in v → Allows c (length vs) → IsTrue b ↔ Each (IsOf inner) (all_seen vs)
    → IsTrue b ↔ IsOf ty v
items_are ty inner c b vs (items ws) is seen_so allowed each =
    let same : all_seen vs ≡ ws = cc in
    rw (is, ← same, count-all_seen) ((λ r. (allowed, each.0 r)), (λ h. each.1 h.1))
items_are ty inner c b vs _ is seen_so allowed each = cc
