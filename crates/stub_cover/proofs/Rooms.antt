-- Rooms hold of a position: behind octets, behind zeros, and where ways meet.
use Rattle.std.proofs.Common.{◌≡◌, ℕ, zero, suc, ◌+◌, ◌-◌, ◌%◌, ◌<◌, ◌≤◌, max, Bool, true, false, nat_eq, nat_le, if◌then◌else◌, Option, Some, None, is_some, option_map, refl, sym, subst, arith, leb-true, eq-eqb}
use Rattle.wire_def.specs.Scalars.{gap}
use Rattle.cast_stub.specs.Steps.{is_width}
use Rattle.stub_flat.specs.Residues.{Residues}
use Rattle.stub_cover.specs.Rooms.{Rooms, lesser, least, only_room, on, raised, set, has, have_first, took, padded_one, padded_first, padded, least_first}
use Rattle.stub_cover.proofs.Going.{below_next, residue, moved_back, same_gap, same_end}
use Rattle.std.proofs.lemmas.Bool.{and_parts}
use Rattle.cast_stub.proofs.Filled.{opened}

-- ---- options

pub some_same : {A : Type 0} (a b : A) → Some a ≡ Some b → a ≡ b
some_same a b e = cc

pub mapped_of : {A B : Type 0} (o : Option A) (f : A → B) (b : B) → option_map f o ≡ Some b → (a : A) × (o ≡ Some a) × (f a ≡ b)
mapped_of None f b e = absurd cc
mapped_of (Some a) f b e = (a, refl, some_same (f a) b e)

pub tested_of : {B : Type 0} (t : Bool) (o : Option B) (b : B) → (if t then o else None) ≡ Some b → (t ≡ true) × (o ≡ Some b)
tested_of true o b e = (refl, e)
tested_of false o b e = absurd cc

-- ---- a room that holds

-- a room, and so many octets beside it, are ensured
abbrev pub Within : Option ℕ → ℕ → ℕ → Type 0
Within None x a = ⊥
Within (Some y) x a = y + x ≤ a

-- the room of a position, and so many octets beside it, are ensured
abbrev pub Holds : Rooms → ℕ → ℕ → ℕ → Type 0
Holds R x p a = Within (R (p % 8)) x a

pub within_less : (o : Option ℕ) (x y a b : ℕ) → y ≤ x → a ≤ b → Within o x a → Within o y b
within_less None x y a b le more h = absurd h
within_less (Some z) x y a b le more h = omega (arith, le, more, h)

pub within_there : (o : Option ℕ) (x a : ℕ) → Within o x a → is_some o ≡ true
within_there None x a h = absurd h
within_there (Some z) x a h = refl

pub lesser_first : (o q : Option ℕ) (x a : ℕ) → Within o x a → Within (lesser o q) x a
lesser_first None q x a h = absurd h
lesser_first (Some y) None x a h = h
lesser_first (Some y) (Some z) x a h = omega (arith, h)

pub lesser_second : (o q : Option ℕ) (x a : ℕ) → Within q x a → Within (lesser o q) x a
lesser_second None q x a h = h
lesser_second (Some y) None x a h = absurd h
lesser_second (Some y) (Some z) x a h = omega (arith, h)

pub least_holds_first : (R S : Rooms) (x p a : ℕ) → Holds R x p a → Holds (least R S) x p a
least_holds_first R S x p a h = lesser_first (R (p % 8)) (S (p % 8)) x a h

pub least_holds_second : (R S : Rooms) (x p a : ℕ) → Holds S x p a → Holds (least R S) x p a
least_holds_second R S x p a h = lesser_second (R (p % 8)) (S (p % 8)) x a h

raised_within : (o : Option ℕ) (n x a : ℕ) → Within o x a → Within (option_map (λ z. max z n) o) 0 (max n a)
raised_within None n x a h = absurd h
raised_within (Some y) n x a h = omega (arith, h)

-- behind octets that are ensured
pub raised_holds : (R : Rooms) (n x p a : ℕ) → Holds R x p a → Holds (raised n R) 0 p (max n a)
raised_holds R n x p a h = raised_within (R (p % 8)) n x a h

set_within : (o : Option ℕ) (e x y a : ℕ) → Within o x a → Within (option_map (λ z. e) o) y (max (y + e) a)
set_within None e x y a h = absurd h
set_within (Some z) e x y a h = omega arith

-- behind octets that are ensured for each element
pub set_holds : (R : Rooms) (e x y p a : ℕ) → Holds R x p a → Holds (set e R) y p (max (y + e) a)
set_holds R e x y p a h = set_within (R (p % 8)) e x y a h

on_within : (b : Bool) (a : ℕ) → b ≡ true → Within (if b then Some 0 else None) 0 a
on_within true a e = omega arith
on_within false a e = absurd cc

-- no room at the residues of a set
pub on_holds : (S : Residues) (p a : ℕ) → S (p % 8) ≡ true → Holds (on S 0) 0 p a
on_holds S p a e = on_within (S (p % 8)) a e

only_within : (b : Bool) (x y a : ℕ) → b ≡ true → x + y ≤ a → Within (if b then Some x else None) y a
only_within true x y a e le = le
only_within false x y a e le = absurd cc

-- the room of one residue
pub only_holds : (r x y p a : ℕ) → p % 8 ≡ r → x + y ≤ a → Holds (only_room r x) y p a
only_holds r x y p a e le = only_within (nat_eq (p % 8) r) x y a (eq-eqb (p % 8) r e) le

-- ---- octets

all_have : (k n : ℕ) (R : Rooms) → have_first k n R ≡ true → (r : ℕ) → r < k → has n (R r) ≡ true
all_have zero n R e r lt = absurd (omega (arith, lt))
all_have (suc k) n R e r lt =
    let t = and_parts (has n (R k)) (have_first k n R) e in
    below_next (λ (j : ℕ). has n (R j) ≡ true) k r lt t.0 (all_have k n R t.1 r)

less_within : (o : Option ℕ) (n x a : ℕ) → has n o ≡ true → Within o x a → (n ≤ a) × Within (option_map (λ z. z - n) o) x (a - n)
less_within None n x a e h = absurd h
less_within (Some y) n x a e h =
    let le : n ≤ y = leb-true n y e in
    (omega (arith, le, h), omega (arith, le, h))

abbrev left_of : ℕ → Rooms → Rooms
left_of n R r = option_map (λ z. z - n) (R ((r + 8 - n % 8) % 8))

-- behind so many octets
pub took_holds : (n : ℕ) (R S : Rooms) (x p a : ℕ) → took n R ≡ Some S → Holds R x p a → (n ≤ a) × Holds S x (p + n) (a - n)
took_holds n R S x p a e h =
    let t = tested_of (have_first 8 n R) (Some (left_of n R)) S e in
    let l = less_within (R (p % 8)) n x a (all_have 8 n R t.0 (p % 8) (residue p)) h in (
      l.0,
      subst (λ (T : Rooms). Holds T x (p + n) (a - n)) (some_same (left_of n R) S t.1)
          (subst (λ (r : ℕ). Within (option_map (λ z. z - n) (R r)) x (a - n)) (sym (moved_back n p)) l.1),
    )

-- ---- zeros

-- what is known behind zeros from a residue
abbrev Behind : ℕ → Rooms → ℕ → Option ℕ → Type 0
Behind a S r o = (x b : ℕ) → Within o x b → (gap r a ≤ b) × Within (S ((r + gap r a) % 8)) x (b - gap r a)

one_behind : (k a : ℕ) (o : Option ℕ) (S : Rooms) → padded_one k a o ≡ Some S → Behind a S k o
one_behind k a None S e x b h = absurd h
one_behind k a (Some y) S e x b h =
    let t = tested_of (nat_le (gap k a) y) (Some (only_room ((k + gap k a) % 8) (y - gap k a))) S e in
    let le : gap k a ≤ y = leb-true (gap k a) y t.0 in (
      omega (arith, le, h),
      subst (λ (T : Rooms). Within (T ((k + gap k a) % 8)) x (b - gap k a))
          (some_same (only_room ((k + gap k a) % 8) (y - gap k a)) S t.1)
          (only_within (nat_eq ((k + gap k a) % 8) ((k + gap k a) % 8)) (y - gap k a) x (b - gap k a)
          (eq-eqb ((k + gap k a) % 8) ((k + gap k a) % 8) refl) (apart y (gap k a) x b le h)),
    )
  where
    apart : (y g x b : ℕ) → g ≤ y → y + x ≤ b → y - g + x ≤ b - g
    apart y g x b le h = omega (arith, le, h)

first_behind : (k a : ℕ) (R S : Rooms) → padded_first k a R ≡ Some S → (r : ℕ) → r < k → Behind a S r (R r)
first_behind zero a R S e r lt = absurd (omega (arith, lt))
first_behind (suc k) a R S e r lt =
    let m = opened (padded_one k a (R k)) (λ (T : Rooms). option_map (least T) (padded_first k a R)) S e in
    let n = mapped_of (padded_first k a R) (least m.0) S m.2 in
    subst (λ (T : Rooms). Behind a T r (R r)) n.2
    (below_next (λ (j : ℕ). Behind a (least m.0 n.0) j (R j)) k r lt
    (λ x b h.
    let f = one_behind k a (R k) m.0 m.1 x b h in
    (f.0, lesser_first (m.0 ((k + gap k a) % 8)) (n.0 ((k + gap k a) % 8)) x (b - gap k a) f.1))
    (λ l x b h.
    let f = first_behind k a R n.0 n.1 r l x b h in
    (f.0, lesser_second (m.0 ((r + gap r a) % 8)) (n.0 ((r + gap r a) % 8)) x (b - gap r a) f.1)))

-- behind zeros up to a multiple
pub padded_holds : (a : ℕ) (R S : Rooms) (x p b : ℕ) → is_width a ≡ true → padded a R ≡ Some S → Holds R x p b
    → (gap p a ≤ b) × Holds S x (p + gap p a) (b - gap p a)
padded_holds a R S x p b w e h =
    let f = first_behind 8 a R S e (p % 8) (residue p) x b h in
    let same : gap (p % 8) a ≡ gap p a = sym (same_gap a p w) in (
      subst (λ (g : ℕ). g ≤ b) same f.0,
      subst (λ (r : ℕ). Within (S r) x (b - gap p a)) (sym (same_end a p w))
          (subst (λ (g : ℕ). Within (S ((p % 8 + gap (p % 8) a) % 8)) x (b - g)) same f.1),
    )

-- ---- the least of all

-- the least room is there, and no greater than one of them
pub least_there : (k : ℕ) (R : Rooms) (r x a : ℕ) → r < k → Within (R r) x a → Within (least_first k R) x a
least_there zero R r x a lt h = absurd (omega (arith, lt))
least_there (suc k) R r x a lt h =
    below_next (λ (j : ℕ). Within (R j) x a → Within (lesser (R k) (least_first k R)) x a) k r lt
    (λ g. lesser_first (R k) (least_first k R) x a g)
    (λ l g. lesser_second (R k) (least_first k R) x a (least_there k R r x a l g)) h
