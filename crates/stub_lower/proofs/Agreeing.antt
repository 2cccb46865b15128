-- When a run gives what a reader gives.
use Rattle.std.proofs.Common.{◌≡◌, ℕ, zero, suc, ℤ, List, ◌∷◌, Option, Some, refl, sym, ap, subst, ◌∙◌}
use Rattle.mint.specs.Values.{Val, num_in, num}
use Rattle.wire_def.specs.declared.fault.FaultKind.{FaultKind}
use Rattle.wire_def.specs.Grammar.{Reading, got, stop, Reader, AreOctets, then_on, map_got, times}
use Rattle.cast_stub.specs.RecvBlock.{finish}
use Rattle.cast_stub.specs.Draft.{Draft, settle}
use Rattle.cast_stub.specs.Fill.{settled, settled_number, runs, Callees, fill}
use Rattle.cast_stub.specs.Runs.{Place, Run, gives, refuses, strays, Going, then_run, map_run, if_some}

-- the same octets are left after both, from a position of these; or neither gives anything
abbrev pub Agrees : {A B : Type 0} → (ℕ → Type 0) → (A → B → Type 0) → Run A → Reading FaultKind B → Type 0
Agrees K P (gives x s) (got y q rest) = P x y × (s.pos ≡ q) × (s.left ≡ rest) × K q × AreOctets rest
Agrees K P refuses (stop k at) = Unit {0}
Agrees K P _ _ = ⊥

-- equal
abbrev pub Same : {A : Type 0} → A → A → Type 0
Same x y = x ≡ y

-- a draft that is this value
abbrev pub Settles : Draft → Val → Type 0
Settles d v = settle d ≡ Some v

pub agrees-then : {A B C D : Type 0} (K L : ℕ → Type 0) (P : A → B → Type 0) (Q : C → D → Type 0) (x : Run A) (r : Reading FaultKind B)
    (f : A → Place → Run C) (g : B → Reader FaultKind D) → Agrees K P x r
    → ((a : A) (b : B) (s : Place) → P a b → K s.pos → AreOctets s.left → Agrees L Q (f a s) (g b s.pos s.left))
    → Agrees L Q (then_run x f) (then_on r g)
agrees-then K L P Q (gives a s) (got b q rest) f g h k =
    subst (λ (m : ℕ). Agrees L Q (f a s) (g b m rest)) h.1
    (subst (λ (o : List ℕ). Agrees L Q (f a s) (g b s.pos o)) h.2
    (k a b s h.0 (subst K (sym h.1) h.3) (subst AreOctets (sym h.2) h.4)))
agrees-then K L P Q refuses (stop k at) f g h m = tt
agrees-then K L P Q (gives a s) (stop k at) f g h m = absurd h
agrees-then K L P Q refuses (got b q rest) f g h m = absurd h
agrees-then K L P Q strays (got b q rest) f g h m = absurd h
agrees-then K L P Q strays (stop k at) f g h m = absurd h

-- the same, seen otherwise
pub agrees-map : {A B C D : Type 0} (K : ℕ → Type 0) (P : A → B → Type 0) (Q : C → D → Type 0) (x : Run A) (r : Reading FaultKind B)
    (f : A → C) (g : B → D) → Agrees K P x r → ((a : A) (b : B) → P a b → Q (f a) (g b))
    → Agrees K Q (map_run f x) (map_got g r)
agrees-map K P Q (gives a s) (got b q rest) f g h k = (k a b h.0, h.1, h.2, h.3, h.4)
agrees-map K P Q refuses (stop k at) f g h m = tt
agrees-map K P Q (gives a s) (stop k at) f g h m = absurd h
agrees-map K P Q refuses (got b q rest) f g h m = absurd h
agrees-map K P Q strays (got b q rest) f g h m = absurd h
agrees-map K P Q strays (stop k at) f g h m = absurd h

-- what is read, seen otherwise
pub agrees-read : {A B D : Type 0} (K : ℕ → Type 0) (P : A → B → Type 0) (Q : A → D → Type 0) (x : Run A) (r : Reading FaultKind B)
    (g : B → D) → Agrees K P x r → ((a : A) (b : B) → P a b → Q a (g b))
    → Agrees K Q x (map_got g r)
agrees-read K P Q (gives a s) (got b q rest) g h k = (k a b h.0, h.1, h.2, h.3, h.4)
agrees-read K P Q refuses (stop k at) g h m = tt
agrees-read K P Q (gives a s) (stop k at) g h m = absurd h
agrees-read K P Q refuses (got b q rest) g h m = absurd h
agrees-read K P Q strays (got b q rest) g h m = absurd h
agrees-read K P Q strays (stop k at) g h m = absurd h

-- what is given, seen otherwise
pub agrees-given : {A B C : Type 0} (K : ℕ → Type 0) (P : A → B → Type 0) (Q : C → B → Type 0) (x : Run A) (r : Reading FaultKind B)
    (f : A → C) → Agrees K P x r → ((a : A) (b : B) → P a b → Q (f a) b)
    → Agrees K Q (map_run f x) r
agrees-given K P Q x r f h k = subst (Agrees K Q (map_run f x)) (same r) (agrees-map K P Q x r f (λ b. b) h k) where
  same : {B : Type 0} (r : Reading FaultKind B) → map_got (λ b. b) r ≡ r
  same (got b q rest) = refl
  same (stop k at) = refl

-- and nothing after
pub agrees-finish : {B : Type 0} (K : ℕ → Type 0) (P : Draft → B → Type 0) (x : Run Draft) (r : Reading FaultKind B) (c : Callees)
    → Agrees K P x r
    → Agrees K P (then_run x (fill c finish)) r
agrees-finish K P (gives a s) r c h = h
agrees-finish K P refuses r c h = h
agrees-finish K P strays r c h = h

-- from a draft to the value
pub agrees-settled : (K : ℕ → Type 0) (x : Run Draft) (r : Reading FaultKind Val) → Agrees K Settles x r → Agrees K Same (settled x) r
agrees-settled K (gives d s) (got v q rest) h =
    subst (λ (o : Option Val). Agrees K Same (if_some o (λ w. gives w s)) (got v q rest)) (sym h.0) (refl, h.1, h.2, h.3, h.4)
agrees-settled K refuses (stop k at) h = tt
agrees-settled K (gives a s) (stop k at) h = absurd h
agrees-settled K refuses (got b q rest) h = absurd h
agrees-settled K strays (got b q rest) h = absurd h
agrees-settled K strays (stop k at) h = absurd h

-- a draft that is this number
abbrev pub Counts : Draft → ℤ → Type 0
Counts d n = settle d ≡ Some (num n)

pub agrees-number : (K : ℕ → Type 0) (x : Run Draft) (r : Reading FaultKind ℤ) → Agrees K Counts x r → Agrees K Same (settled_number x) r
agrees-number K (gives d s) (got v q rest) h =
    subst
    (λ (o : Option Val). Agrees K Same (then_run (if_some o (λ w. gives w s)) (λ w t. if_some (num_in w) (λ n. gives n t))) (got v q rest))
    (sym h.0) (refl, h.1, h.2, h.3, h.4)
agrees-number K refuses (stop k at) h = tt
agrees-number K (gives a s) (stop k at) h = absurd h
agrees-number K refuses (got b q rest) h = absurd h
agrees-number K strays (got b q rest) h = absurd h
agrees-number K strays (stop k at) h = absurd h

-- so many, one after the other
pub agrees-runs : {A : Type 0} (K : ℕ → Type 0) (f : Going A) (r : Reader FaultKind A) (n : ℕ) (s : Place)
    → ((t : Place) → K t.pos → AreOctets t.left → Agrees K Same (f t) (r t.pos t.left)) → K s.pos → AreOctets s.left
    → Agrees K Same (runs f n s) (times r n s.pos s.left)
agrees-runs K f r zero s each here oct = (refl, refl, refl, here, oct)
agrees-runs {A} K f r (suc n) s each here oct =
    agrees-then K K Same Same (f s) (r s.pos s.left) (λ x t. map_run (λ xs. x ∷ xs) (runs f n t))
    (λ x q rest. map_got (λ xs. x ∷ xs) (times r n q rest)) (each s here oct)
    (λ (a : A) (b : A) (t : Place) same k o.
    agrees-map K Same Same (runs f n t) (times r n t.pos t.left) (λ xs. a ∷ xs) (λ xs. b ∷ xs) (agrees-runs K f r n t each k o)
    (λ (x : List A) (y : List A) e. ap (λ (z : A). z ∷ x) same ∙ ap (λ (l : List A). b ∷ l) e))

-- up to positions of more
pub agrees-wider : {A B : Type 0} (K L : ℕ → Type 0) (P : A → B → Type 0) (x : Run A) (r : Reading FaultKind B) → Agrees K P x r
    → ((q : ℕ) → K q → L q) → Agrees L P x r
agrees-wider K L P (gives a s) (got b q rest) h k = (h.0, h.1, h.2, k q h.3, h.4)
agrees-wider K L P refuses (stop x at) h k = tt
agrees-wider K L P (gives a s) (stop x at) h k = absurd h
agrees-wider K L P refuses (got b q rest) h k = absurd h
agrees-wider K L P strays (got b q rest) h k = absurd h
agrees-wider K L P strays (stop x at) h k = absurd h

-- ---- readings that end alike: both give the same, or both stop, wherever that is

abbrev pub SameEnds : {A : Type 0} → Reading FaultKind A → Reading FaultKind A → Type 0
SameEnds (got x p o) (got y q r) = (x ≡ y) × (p ≡ q) × (o ≡ r)
SameEnds (stop k at) (stop j to) = Unit {0}
SameEnds _ _ = ⊥

pub ends-same : {A : Type 0} (r : Reading FaultKind A) → SameEnds r r
ends-same (got x p o) = (refl, refl, refl)
ends-same (stop k at) = tt

pub agrees-ends : {A B : Type 0} (K : ℕ → Type 0) (P : A → B → Type 0) (x : Run A) (r t : Reading FaultKind B) → SameEnds r t
    → Agrees K P x r
    → Agrees K P x t
agrees-ends K P (gives a s) (got b q rest) (got y m o) e h =
    (subst (P a) e.0 h.0, h.1 ∙ e.1, h.2 ∙ e.2, subst K e.1 h.3, subst AreOctets e.2 h.4)
agrees-ends K P refuses (stop k at) (stop j to) e h = tt
agrees-ends K P x (got b q rest) (stop j to) e h = absurd e
agrees-ends K P x (stop k at) (got y m o) e h = absurd e
agrees-ends K P (gives a s) (stop k at) (stop j to) e h = absurd h
agrees-ends K P strays (stop k at) (stop j to) e h = absurd h
agrees-ends K P refuses (got b q rest) (got y m o) e h = absurd h
agrees-ends K P strays (got b q rest) (got y m o) e h = absurd h

pub ends-map : {A B : Type 0} (f : A → B) (r t : Reading FaultKind A) → SameEnds r t → SameEnds (map_got f r) (map_got f t)
ends-map f (got x p o) (got y q m) e = (ap f e.0, e.1, e.2)
ends-map f (stop k at) (stop j to) e = tt
ends-map f (got x p o) (stop j to) e = absurd e
ends-map f (stop k at) (got y q m) e = absurd e

pub ends-then : {A B : Type 0} (r t : Reading FaultKind A) (f g : A → Reader FaultKind B) → SameEnds r t
    → ((x : A) (p : ℕ) (o : List ℕ) → SameEnds (f x p o) (g x p o)) → SameEnds (then_on r f) (then_on t g)
ends-then {A} {B} (got x p o) (got y q m) f g e k =
    subst (λ (z : A). SameEnds (f x p o) (g z q m)) e.0
    (subst (λ (n : ℕ). SameEnds (f x p o) (g x n m)) e.1 (subst (λ (l : List ℕ). SameEnds (f x p o) (g x p l)) e.2 (k x p o)))
ends-then (stop k at) (stop j to) f g e h = tt
ends-then (got x p o) (stop j to) f g e h = absurd e
ends-then (stop k at) (got y q m) f g e h = absurd e
