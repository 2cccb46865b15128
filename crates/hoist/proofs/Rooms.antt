-- Room for steps, by what they append, by induction on the steps.
use Rattle.std.proofs.Common.{◌≡◌, ℕ, ◌+◌, ◌-◌, ◌*◌, ◌≤◌, max, List, [], ◌∷◌, ◌++◌, length, Option, None, Some, refl, ap, subst, ◌∙◌, arith}
use Rattle.mint.specs.Types.{Ty}
use Rattle.mint.specs.Typed.{IsOf, Each}
use Rattle.mint.specs.Values.{Val, Vals, no_more, val}
use Rattle.wire_def.specs.Scalars.{gap}
use Rattle.cast_stub.specs.Parts.{on_some}
use Rattle.cast_stub.specs.Steps.{Step, Room, Pad, Stored, Widened, Copied, Patched, Steps, both, over}
use Rattle.cast_stub.specs.Meaning.{HasRoom}
use Rattle.cast_stub.proofs.Folding.{room-more}
use Rattle.hoist.specs.Bound.{appended, Within}

-- room from anywhere
abbrev pub Alone : List Step → Type 0
Alone ss = (p a : ℕ) → HasRoom p a ss

room-append : (x y : List Step) (p a : ℕ) → HasRoom p a x → Alone y → HasRoom p a (x ++ y)
room-append [] y p a h k = k p a
room-append (Room n ∷ x) y p a h k = room-append x y p (max n a) h k
room-append (Pad z ∷ x) y p a h k = (h.0, room-append x y (p + gap p z) (a - gap p z) h.1 k)
room-append (Stored o n ∷ x) y p a h k = (h.0, room-append x y (p + length o) (a - length o) h.1 k)
room-append (Widened o n ∷ x) y p a h k = (h.0, room-append x y (p + length o) (a - length o) h.1 k)
room-append (Copied o ∷ x) y p a h k = (h.0, room-append x y (p + length o) (a - length o) h.1 k)
room-append (Patched z s o ∷ x) y p a h k = room-append x y p a h k

-- room for the first steps by their octets, and so much is left for the others
room-first : (x y : List Step) (p a k : ℕ) → appended p x + k ≤ a → ((q : ℕ) → HasRoom q k y) → HasRoom p a (x ++ y)
room-first [] y p a k h r = room-more p k a y (omega (arith, h)) (r p)
room-first (Room n ∷ x) y p a k h r = room-first x y p (max n a) k (omega (arith, h)) r
room-first (Pad z ∷ x) y p a k h r = (omega (arith, h), room-first x y (p + gap p z) (a - gap p z) k (omega (arith, h)) r)
room-first (Stored o n ∷ x) y p a k h r = (omega (arith, h), room-first x y (p + length o) (a - length o) k (omega (arith, h)) r)
room-first (Widened o n ∷ x) y p a k h r = (omega (arith, h), room-first x y (p + length o) (a - length o) k (omega (arith, h)) r)
room-first (Copied o ∷ x) y p a k h r = (omega (arith, h), room-first x y (p + length o) (a - length o) k (omega (arith, h)) r)
room-first (Patched z s o ∷ x) y p a k h r = room-first x y p a k h r

record Parts (x y : Steps) (s : List Step) : Type 0 where
  front : List Step
  back : List Step
  is_front : x ≡ Some front
  is_back : y ≡ Some back
  whole : front ++ back ≡ s

parts : (x y : Steps) (s : List Step) → both x y ≡ Some s → Parts x y s
parts None y s e = absurd cc
parts (Some x) None s e = absurd cc
parts (Some x) (Some y) s e = record { front = x; back = y; is_front = refl; is_back = refl; whole = cc }

abbrev pub times_or : Option ℕ → ℕ → ℕ
times_or None u = 0
times_or (Some k) u = k * u

-- with so many octets ensured, steps have room from anywhere
abbrev pub Rooms : Steps → ℕ → Type 0
Rooms x w = (ss : List Step) → x ≡ Some ss → (p a : ℕ) → w ≤ a → HasRoom p a ss

pub no_rooms : (w : ℕ) → Rooms None w
no_rooms w ss e p a enough = absurd cc

pub rooms_none : (w : ℕ) → Rooms (Some []) w
rooms_none w ss e p a enough = let s : [] ≡ ss = cc in subst (HasRoom p a) s tt

pub rooms_more : (x : Steps) (m n : ℕ) → m ≤ n → Rooms x m → Rooms x n
rooms_more x m n le r ss e p a enough = r ss e p a (omega (arith, le, enough))

pub rooms_first : (x y : Steps) (n w : ℕ) → Within x (Some n) → Rooms y w → Rooms (both x y) (w + n)
rooms_first x y n w h r ss e p a enough =
    let d = parts x y ss e in
    let short : (q : ℕ) → appended q d.front ≤ n = subst (λ (z : Steps). Within z (Some n)) d.is_front h in
    let s : appended p d.front ≤ n = short p in
    subst (HasRoom p a) d.whole
    (room-first d.front d.back p a w (omega (arith, s, enough)) (λ (q : ℕ). r d.back d.is_back q w (omega arith)))

pub rooms_after : (x y : Steps) (w : ℕ) → Rooms x w → Rooms y 0 → Rooms (both x y) w
rooms_after x y w h r ss e p a enough =
    let d = parts x y ss e in
    subst (HasRoom p a) d.whole
    (room-append d.front d.back p a (h d.front d.is_front p a enough) (λ (q k : ℕ). r d.back d.is_back q k (omega arith)))

-- an ensure before code
pub rooms_ensured : (n : ℕ) (y : Steps) → Rooms y n → Rooms (both (Some (Room n ∷ [])) y) 0
rooms_ensured n y r ss e p a enough =
    let d = parts (Some (Room n ∷ [])) y ss e in
    let f : Room n ∷ [] ≡ d.front = let i = d.is_front in cc in
    let w : HasRoom p (max n a) d.back = r d.back d.is_back p (max n a) (omega arith) in
    subst (HasRoom p a) (ap (λ (x : List Step). x ++ d.back) f ∙ d.whole) w

pub rooms_row : (z : Option ℕ) (u n : ℕ) (y : Steps) → Rooms y (times_or z u + n)
    → Rooms (both (on_some z (λ k. Some (Room (k * u + n) ∷ []))) y) 0
rooms_row None u n y r = no_rooms 0
rooms_row (Some k) u n y r = rooms_ensured (k * u + n) y r

pub rooms-over : (f : Val → Steps) (t : Ty) (vs : Vals) → Each (IsOf t) vs → ((w : Val) → IsOf t w → Rooms (f w) 0) → Rooms (over f vs) 0
rooms-over f t no_more typed go = rooms_none 0
rooms-over f t (val v vs) typed go = rooms_after (f v) (over f vs) 0 (go v typed.0) (rooms-over f t vs typed.1 go)
