-- Sets of residues: what a way does not leave, and where octets and aligns lead.
use Rattle.std.proofs.Common.{◌≡◌, ℕ, zero, suc, ◌+◌, ◌-◌, ◌%◌, ◌<◌, ◌≤◌, List, ◌++◌, length, replicate, Bool, true, false, not, ◌&&◌, ◌||◌, nat_eq, if◌then◌else◌, inl, inr, refl, sym, ap, subst, arith, length-append}
use Rattle.std.proofs.lemmas.Bool.{cases_lt, eq-eqb, and_from, or_right, or_left}
use Rattle.std.proofs.lemmas.List.{length-replicate}
use Rattle.wire_def.specs.Scalars.{gap}
use Rattle.stub_flat.specs.Residues.{Residues, sum, moved, comes, aligned, within_first, is_within, size_first, closing, closed, single_first}
use Rattle.stub_flat.proofs.Ends.{At}
use Rattle.cast_stub.proofs.Widths.{Wide, one, two, four, eight}

-- ---- tests

implied : (a b c : Bool) → ((not a || b) && c) ≡ true → a ≡ true → b ≡ true
implied true true c e f = refl
implied true false c e f = absurd cc
implied false b c e f = absurd cc

then_rest : (a b c : Bool) → ((not a || b) && c) ≡ true → c ≡ true
then_rest true true c e = e
then_rest true false c e = absurd cc
then_rest false b c e = e

-- ---- sets within sets

-- the residues of one set are in another
abbrev pub Within : Residues → Residues → Type 0
Within S T = (r : ℕ) → r < 8 → S r ≡ true → T r ≡ true

pub at_within : (S T : Residues) → Within S T → (o : List ℕ) → At S o → At T o
at_within S T w o h = w (length o % 8) (omega arith) h

within_at : (k : ℕ) (S T : Residues) (r : ℕ) → within_first k S T ≡ true → r < k → S r ≡ true → T r ≡ true
within_at zero S T r w lt s = absurd (omega (arith, lt))
within_at (suc k) S T r w lt s = elim (cases_lt r k) [
  | inl low ↦ within_at k S T r (then_rest (S k) (T k) (within_first k S T) w) low s
  | inr top ↦
      let same : k ≡ r = omega (arith, lt, top) in
      subst (λ (i : ℕ). T i ≡ true) same
      (implied (S k) (T k) (within_first k S T) w (subst (λ (i : ℕ). S i ≡ true) (sym same) s))
]

-- ---- how many residues a set has

-- one where a test holds
abbrev unit : Bool → ℕ
unit b = if b then 1 else 0

first_below : (a b : Bool) → unit a ≤ unit (a || b)
first_below true b = omega arith
first_below false true = omega arith
first_below false false = omega arith

size_grows : (k : ℕ) (S T : Residues) → size_first k S ≤ size_first k (sum S T)
size_grows zero S T = omega arith
size_grows (suc k) S T = let rest = size_grows k S T in let here = first_below (S k) (T k) in omega (arith, rest, here)

one_more : (a b w : Bool) (x y : ℕ) → ((not b || a) && w) ≡ false → x ≤ y → (w ≡ false → suc x ≤ y) → suc (unit a + x) ≤ unit (a || b) + y
one_more true true w x y e le more = let m = more e in omega (arith, m)
one_more true false w x y e le more = let m = more e in omega (arith, m)
one_more false true w x y e le more = omega (arith, le)
one_more false false w x y e le more = let m = more e in omega (arith, m)

-- a set that another is not within grows by it
size_more : (k : ℕ) (S T : Residues) → within_first k T S ≡ false → suc (size_first k S) ≤ size_first k (sum S T)
size_more zero S T e = absurd cc
size_more (suc k) S T e =
    one_more (S k) (T k) (within_first k T S) (size_first k S) (size_first k (sum S T)) e (size_grows k S T) (size_more k S T)

unit_most : (b : Bool) → unit b ≤ 1
unit_most true = omega arith
unit_most false = omega arith

size_most : (k : ℕ) (S : Residues) → size_first k S ≤ k
size_most zero S = omega arith
size_most (suc k) S = let rest = size_most k S in let here = unit_most (S k) in omega (arith, rest, here)

all_there : (b : Bool) (k x : ℕ) → suc k ≤ unit b + x → x ≤ k → (b ≡ true) × (k ≤ x)
all_there true k x le most = (refl, omega (arith, le))
all_there false k x le most = absurd (omega (arith, le, most))

-- a set of all residues
full_at : (k : ℕ) (S : Residues) (r : ℕ) → k ≤ size_first k S → r < k → S r ≡ true
full_at zero S r le lt = absurd (omega (arith, lt))
full_at (suc k) S r le lt =
    let t = all_there (S k) k (size_first k S) le (size_most k S) in
    elim (cases_lt r k) [
      | inl low ↦ full_at k S r t.1 low
      | inr top ↦ let same : k ≡ r = omega (arith, lt, top) in subst (λ (i : ℕ). S i ≡ true) same t.0
    ]

there_unit : (b : Bool) (x : ℕ) → b ≡ true → 1 ≤ unit b + x
there_unit true x e = omega arith
there_unit false x e = absurd cc

size_some : (k : ℕ) (S : Residues) (r : ℕ) → r < k → S r ≡ true → 1 ≤ size_first k S
size_some zero S r lt s = absurd (omega (arith, lt))
size_some (suc k) S r lt s = elim (cases_lt r k) [
  | inl low ↦ let rest = size_some k S r low s in omega (arith, rest)
  | inr top ↦
      let same : r ≡ k = omega (arith, lt, top) in
      there_unit (S k) (size_first k S) (subst (λ (i : ℕ). S i ≡ true) same s)
]

-- the only residue of a set
pub single_at : (k : ℕ) (S : Residues) (r : ℕ) → size_first k S ≡ 1 → r < k → S r ≡ true → single_first k S ≡ r
single_at zero S r e lt s = absurd (omega (arith, lt))
single_at (suc k) S r e lt s = by (S k) refl e (λ f low. single_at k S r f low s) where
  by : (b : Bool) → S k ≡ b → unit b + size_first k S ≡ 1 → (size_first k S ≡ 1 → r < k → single_first k S ≡ r)
      → (if b then k else single_first k S) ≡ r
  by true t f more = elim (cases_lt r k) [
    | inl low ↦ let some = size_some k S r low s in absurd (omega (arith, some, f))
    | inr top ↦ omega (arith, lt, top)
  ]
  by false t f more = elim (cases_lt r k) [
    | inl low ↦ more (omega (arith, f)) low
    | inr top ↦
        let same : r ≡ k = omega (arith, lt, top) in
        let here : S k ≡ true = subst (λ (i : ℕ). S i ≡ true) same s in
        absurd cc
  ]

-- ---- what a way does not leave

closing_has : (n : ℕ) (f : Residues → Residues) (S : Residues) → Within S (closing n f S)
closing_has zero f S = λ r lt s. s
closing_has (suc n) f S = by (is_within (f S) S) (closing_has n f (sum S (f S))) where
  by : (t : Bool) → Within (sum S (f S)) (closing n f (sum S (f S))) → Within S (if t then S else closing n f (sum S (f S)))
  by true more = λ r lt s. s
  by false more = λ r lt s. more r lt (or_left (S r) (f S r) s)

closing_within : (n : ℕ) (f : Residues → Residues) (S : Residues) → 8 ≤ n + size_first 8 S → Within (f (closing n f S)) (closing n f S)
closing_within zero f S le = λ r lt s. full_at 8 S r (omega (arith, le)) lt
closing_within (suc n) f S le = by (is_within (f S) S) refl (closing_within n f (sum S (f S))) where
  by : (t : Bool) → is_within (f S) S ≡ t
      → (8 ≤ n + size_first 8 (sum S (f S)) → Within (f (closing n f (sum S (f S)))) (closing n f (sum S (f S))))
      → Within (f (if t then S else closing n f (sum S (f S)))) (if t then S else closing n f (sum S (f S)))
  by true t more = λ r lt s. within_at 8 (f S) S r t lt s
  by false t more = let m = size_more 8 S (f S) t in more (omega (arith, le, m))

pub closed_has : (f : Residues → Residues) (S : Residues) → Within S (closed f S)
closed_has f S = closing_has (8 - size_first 8 S) f S

pub closed_within : (f : Residues → Residues) (S : Residues) → Within (f (closed f S)) (closed f S)
closed_within f S = closing_within (8 - size_first 8 S) f S (omega arith)

-- ---- octets

pub at_moved : (n : ℕ) (S : Residues) (o p : List ℕ) → length p ≡ n → At S o → At (moved n S) (o ++ p)
at_moved n S o p long h =
    let all : length (o ++ p) ≡ length o + length p = length-append o p in
    let same : length o % 8 ≡ (length (o ++ p) % 8 + 8 - n % 8) % 8 = omega (arith, all, long) in
    subst (λ (i : ℕ). S i ≡ true) same h

-- ---- aligns

comes_there : (k a : ℕ) (S : Residues) (j r : ℕ) → j < k → S j ≡ true → (j + gap j a) % 8 ≡ r → comes k a S r ≡ true
comes_there zero a S j r lt s e = absurd (omega (arith, lt))
comes_there (suc k) a S j r lt s e = elim (cases_lt j k) [
  | inl low ↦ or_right (S k && nat_eq ((k + gap k a) % 8) r) (comes k a S r) (comes_there k a S j r low s e)
  | inr top ↦
      let same : j ≡ k = omega (arith, lt, top) in
      or_left (S k && nat_eq ((k + gap k a) % 8) r) (comes k a S r)
      (and_from (S k) (nat_eq ((k + gap k a) % 8) r) (subst (λ (i : ℕ). S i ≡ true) same s)
      (eq-eqb ((k + gap k a) % 8) r (subst (λ (i : ℕ). (i + gap i a) % 8 ≡ r) same e)))
]

-- a gap goes by the residue
pub gap_turns : (a : ℕ) → Wide a → (p : ℕ) → gap (p % 8) a ≡ gap p a
gap_turns _ one p = omega arith
gap_turns _ two p = omega arith
gap_turns _ four p = omega arith
gap_turns _ eight p = omega arith

pub at_padded : (a : ℕ) (S : Residues) (o : List ℕ) → Wide a → At S o → At (aligned a S) (o ++ replicate (gap (0 + length o) a) 0)
at_padded a S o is h =
    let n = gap (0 + length o) a in
    let none : 0 + length o ≡ length o = omega arith in
    let gaps : n ≡ gap (length o) a = ap (λ (i : ℕ). gap i a) none in
    let turns = gap_turns a is (length o) in
    let zeros : List ℕ = replicate n 0 in
    let all : length (o ++ zeros) ≡ length o + length zeros = length-append o zeros in
    let long : length zeros ≡ n = length-replicate n 0 in
    let same : (length o % 8 + gap (length o % 8) a) % 8 ≡ length (o ++ zeros) % 8 = omega (arith, gaps, turns, all, long) in
    comes_there 8 a S (length o % 8) (length (o ++ zeros) % 8) (omega arith) h same
