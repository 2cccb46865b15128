-- Steps of the way to a part.
use Rattle.std.proofs.Common.{◌≡◌, ℕ, List, [], ◌∷◌, length, Bool, true, false, ◌||◌, Option, ap, ◌∙◌}
use Rattle.mint.specs.Types.{Ty}
use Rattle.hoist.specs.Regions.{Sizes, is_light, further_on, on_way}
use Rattle.cast_stub.specs.PartTypes.{in_group_type}

-- a small first node is on each way
pub light-first : (z : Sizes) (p : List ℕ) (t : Ty) → true ≡ is_light (z.top t) → true ≡ on_way z p t
light-first z [] t e = e
light-first z (i ∷ p) t e = ap (λ (b : Bool). b || further_on (in_group_type i t) (on_way z p)) e

-- the way through a field that is there or not
pub field-way : (z : Sizes) (i : ℕ) (p : List ℕ) (t : Ty) (x : Option Ty) → false ≡ is_light (z.top t) → x ≡ in_group_type i t
    → further_on x (on_way z p) ≡ on_way z (i ∷ p) t
field-way z i p t x e f =
    ap (λ (y : Option Ty). further_on y (on_way z p)) f ∙ ap (λ (b : Bool). b || further_on (in_group_type i t) (on_way z p)) e

-- the way to the node itself
pub no-way : (z : Sizes) (p : List ℕ) (t : Ty) → length p ≡ 0 → false ≡ is_light (z.top t) → false ≡ on_way z p t
no-way z [] t h e = e
no-way z (i ∷ p) t h e = absurd cc
