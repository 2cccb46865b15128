-- Reading octets from left to right: what is read, how it is spelled, and where reading stops.
use Rattle.std.specs.Prelude.{◌≡◌, ◌⊎◌, ℕ, zero, suc, ◌+◌, ◌<◌, List, [], ◌∷◌, ◌++◌, length, Bool, false, IsTrue, if◌then◌else◌}
use Rattle.std.specs.List.{AllByRecursion}

-- a value with the position after it and the octets left, or the first fault and its place
pub data Reading (E A : Type 0) : Type 0 where
  got : A → ℕ → List ℕ → Reading E A
  stop : E → ℕ → Reading E A

-- from a position and the octets there
abbrev pub Reader : Type 0 → Type 0 → Type 0
Reader E A = ℕ → List ℕ → Reading E A

-- the octets from a position spell the value
abbrev pub Spelling : Type 0 → Type 1
Spelling A = ℕ → List ℕ → A → Type 0

-- the octets from a position have this first fault at this place
abbrev pub Stopping : Type 0 → Type 1
Stopping E = ℕ → List ℕ → E → ℕ → Type 0

-- numbers that are octets
abbrev pub AreOctets : List ℕ → Type 0
AreOctets o = AllByRecursion (λ b. b < 256) o

-- ---- readers

-- what is read after what was read, or the fault
abbrev pub then_on : {E A B : Type 0} → Reading E A → (A → Reader E B) → Reading E B
then_on (got x p o) f = f x p o
then_on (stop k at) f = stop k at

-- what was read, with a function applied to the value
abbrev pub map_got : {E A B : Type 0} → (A → B) → Reading E A → Reading E B
map_got f (got x p o) = got (f x) p o
map_got f (stop k at) = stop k at

-- a reader, and after it another that knows the value of the first
abbrev pub both : {E A B : Type 0} → Reader E A → (A → Reader E B) → Reader E (A × B)
both r s p o = then_on (r p o) (λ x q rest. map_got (λ y. (x, y)) (s x q rest))

-- so many, one after the other
abbrev pub times : {E A : Type 0} → Reader E A → ℕ → Reader E (List A)
times r zero p o = got [] p o
times r (suc n) p o = then_on (r p o) (λ x q rest. map_got (λ xs. x ∷ xs) (times r n q rest))

-- the value, if it passes the test; else the fault, at the place for the position
abbrev pub tested : {E A : Type 0} → Reader E A → (A → Bool) → E → (ℕ → ℕ) → Reader E A
tested r test k place p o = then_on (r p o) (λ x q rest. if test x then got x q rest else stop k (place p))

-- ---- spellings and stops

-- the octets are two parts, the second after the first
abbrev pub Parts : ℕ → List ℕ → (List ℕ → Type 0) → (ℕ → List ℕ → Type 0) → Type 0
Parts p o First Second = (a : List ℕ) × (b : List ℕ) × (o ≡ a ++ b) × First a × Second (p + length a) b

-- so many values, one after the other, in the octets
abbrev pub SpellTimes : {A : Type 0} → Spelling A → ℕ → Spelling (List A)
SpellTimes S zero p o [] = o ≡ []
SpellTimes S (suc n) p o (x ∷ xs) = Parts p o (λ a. S p a x) (λ q b. SpellTimes S n q b xs)
SpellTimes S _ p o _ = ⊥

-- one of n values stops, after those before it are spelled
abbrev pub StopTimes : {E A : Type 0} → Spelling A → Stopping E → ℕ → Stopping E
StopTimes S F zero p o k at = ⊥
StopTimes {E} {A} S F (suc n) p o k at = F p o k at ⊎ ((x : A) × Parts p o (λ a. S p a x) (λ q b. StopTimes S F n q b k at))

-- the first stop of a part and of what follows it: the part stops, or it is there and what follows stops
abbrev pub StopsInOrder : {E A : Type 0} → Spelling A → Stopping E → (A → Stopping E) → Stopping E
StopsInOrder {E} {A} S F After p o k at = F p o k at ⊎ ((x : A) × Parts p o (λ a. S p a x) (λ q b. After x q b k at))

-- a value that passes the test
abbrev pub TestedSpells : {A : Type 0} → Spelling A → (A → Bool) → Spelling A
TestedSpells S test p o x = S p o x × IsTrue (test x)

-- a stop, or a value that does not pass, which is this fault at the place for the position
abbrev pub TestedStops : {E A : Type 0} → Spelling A → Stopping E → (A → Bool) → E → (ℕ → ℕ) → Stopping E
TestedStops {E} {A} S F test fault place p o k at =
    F p o k at ⊎ ((x : A) × Parts p o (λ a. S p a x) (λ q b. (test x ≡ false) × (k ≡ fault) × (at ≡ place p)))

-- ---- what holds them together

-- a reading function, the spellings that it reads, and the stops at which it stops
pub record IsGrammar {E A : Type 0} (r : Reader E A) (S : Spelling A) (F : Stopping E) : Type 0 where
  -- what is spelled is read, whatever follows
  pub reads : (p : ℕ) (o rest : List ℕ) (x : A) → S p o x → r p (o ++ rest) ≡ got x (p + length o) rest
  -- what is read is spelled
  pub spelled : (p : ℕ) (o : List ℕ) (x : A) (q : ℕ) (rest : List ℕ) → AreOctets o → r p o ≡ got x q rest
      → (a : List ℕ) × (o ≡ a ++ rest) × (q ≡ p + length a) × S p a x
  -- octets that have a fault are read to that fault
  pub stops : (p : ℕ) (o : List ℕ) (k : E) (at : ℕ) → F p o k at → r p o ≡ stop k at
  -- a fault that reading gives is one that the octets have
  pub faulty : (p : ℕ) (o : List ℕ) (k : E) (at : ℕ) → AreOctets o → r p o ≡ stop k at → F p o k at
