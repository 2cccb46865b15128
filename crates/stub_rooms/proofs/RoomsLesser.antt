-- The lesser of rooms, and the least rooms of lists.
use Rattle.std.proofs.Common.{◌≡◌, ℕ, min, Bool, true, false, ◌||◌, List, Option, Some, None, refl, sym, ap, ◌∙◌, arith}
use Rattle.stub_flat.specs.Residues.{Residues, sum}
use Rattle.stub_cover.specs.Rooms.{Rooms, lesser, least}
use Rattle.stub_rooms.specs.RoomsShown.{room_at, least_of}
use Rattle.stub_places.specs.Sets.{each_of, set_of}
use Rattle.stub_rooms.proofs.RoomsEights.{each_same}
use Rattle.stub_places.proofs.Eights.{eight_same}

min_assoc : (x y z : ℕ) → min (min x y) z ≡ min x (min y z)
min_assoc x y z = omega arith

pub lesser_assoc : (a b c : Option ℕ) → lesser (lesser a b) c ≡ lesser a (lesser b c)
lesser_assoc None b c = refl
lesser_assoc (Some x) None c = refl
lesser_assoc (Some x) (Some y) None = refl
lesser_assoc (Some x) (Some y) (Some z) = ap Some (min_assoc x y z)

min_same : (x : ℕ) → min x x ≡ x
min_same x = omega arith

pub lesser_same : (a : Option ℕ) → lesser a a ≡ a
lesser_same None = refl
lesser_same (Some x) = ap Some (min_same x)

min_low : (x y z : ℕ) → min x (min y z) ≡ x → min x y ≡ x
min_low x y z h = omega (arith, h)

min_other : (x y z : ℕ) → min x (min y z) ≡ x → min x z ≡ x
min_other x y z h = omega (arith, h)

some_same : (x y : ℕ) → Some x ≡ Some y → x ≡ y
some_same x y h = cc

-- what is not above two is not above the first
pub lesser_low : (a b c : Option ℕ) → lesser a (lesser b c) ≡ a → lesser a b ≡ a
lesser_low None None c h = refl
lesser_low None (Some y) None h = absurd cc
lesser_low None (Some y) (Some z) h = absurd cc
lesser_low (Some x) None c h = refl
lesser_low (Some x) (Some y) None h = h
lesser_low (Some x) (Some y) (Some z) h = ap Some (min_low x y z (some_same _ _ h))

-- nor above the second
pub lesser_low_other : (a b c : Option ℕ) → lesser a (lesser b c) ≡ a → lesser a c ≡ a
lesser_low_other None None c h = h
lesser_low_other None (Some y) None h = refl
lesser_low_other None (Some y) (Some z) h = absurd cc
lesser_low_other (Some x) None c h = h
lesser_low_other (Some x) (Some y) None h = refl
lesser_low_other (Some x) (Some y) (Some z) h = ap Some (min_other x y z (some_same _ _ h))

-- ---- lists

-- rooms that are not above others: the least of both are the same
abbrev pub IsLow : List (Option ℕ) → List (Option ℕ) → Type 0
IsLow y a = least_of y a ≡ y

pub least_assoc : (a : List (Option ℕ)) (R T : Rooms)
    → each_of (least (room_at (least_of a (each_of R))) T) ≡ each_of (least (room_at a) (least R T))
least_assoc a R T = each_same (λ r. lesser (lesser (room_at a r) (R r)) (T r)) (λ r. lesser (room_at a r) (lesser (R r) (T r)))
    (λ r. lesser_assoc (room_at a r) (R r) (T r))

pub least_same : (f : Rooms) → IsLow (each_of f) (each_of f)
least_same f = each_same (λ r. lesser (f r) (f r)) f (λ r. lesser_same (f r))

-- at one residue
one_first : (y a b : List (Option ℕ)) (r : ℕ) → lesser (room_at y r) (lesser (room_at a r) (room_at b r)) ≡ room_at y r
    → lesser (room_at y r) (room_at a r) ≡ lesser (room_at y r) (lesser (room_at a r) (room_at b r))
one_first y a b r e = lesser_low (room_at y r) (room_at a r) (room_at b r) e ∙ sym e

one_second : (y a b : List (Option ℕ)) (r : ℕ) → lesser (room_at y r) (lesser (room_at a r) (room_at b r)) ≡ room_at y r
    → lesser (room_at y r) (room_at b r) ≡ lesser (room_at y r) (lesser (room_at a r) (room_at b r))
one_second y a b r e = lesser_low_other (room_at y r) (room_at a r) (room_at b r) e ∙ sym e

-- rooms that are those of a list, at each residue by what the list has there
low_by : (f g : Rooms) (y : List (Option ℕ)) → each_of g ≡ y → ((r : ℕ) → g r ≡ room_at y r → f r ≡ g r) → each_of f ≡ y
low_by f g y h one =
    let k = λ (r : ℕ). ap (λ (l : List (Option ℕ)). room_at l r) h in
    eight_same f g (one 0 (k 0)) (one 1 (k 1)) (one 2 (k 2)) (one 3 (k 3)) (one 4 (k 4)) (one 5 (k 5)) (one 6 (k 6)) (one 7 (k 7)) ∙ h

pub low_first : (y a b : List (Option ℕ)) → IsLow y (least_of a b) → IsLow y a
low_first y a b h =
    low_by (least (room_at y) (room_at a)) (least (room_at y) (least (room_at a) (room_at b))) y h (one_first y a b)

pub low_second : (y a b : List (Option ℕ)) → IsLow y (least_of a b) → IsLow y b
low_second y a b h =
    low_by (least (room_at y) (room_at b)) (least (room_at y) (least (room_at a) (room_at b))) y h (one_second y a b)

-- ---- sets

or_assoc : (a b c : Bool) → ((a || b) || c) ≡ (a || (b || c))
or_assoc true b c = refl
or_assoc false b c = refl

pub sum_assoc : (a : List Bool) (S T : Residues)
    → each_of (sum (set_of (each_of (sum (set_of a) S))) T) ≡ each_of (sum (set_of a) (sum S T))
sum_assoc a S T = each_same (λ r. (set_of a r || S r) || T r) (λ r. set_of a r || (S r || T r)) (λ r. or_assoc (set_of a r) (S r) (T r))
