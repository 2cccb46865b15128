-- What the descriptors of rows and texts of Mach messages read.
use Rattle.std.proofs.Common.{◌≡◌, ◌⊎◌, inl, inr, ℕ, ◌+◌, ◌-◌, ◌*◌, ◌/◌, ◌%◌, ◌^◌, ◌<◌, ◌≤◌, List, ◌∷◌, length, take, drop, Option, Some, None, refl, sym, ap, subst, ◌∙◌, arith, Bool, true, false, ◌&&◌, if◌then◌else◌}
use Rattle.std.specs.Prelude.{nat_lt, nat_le, nat_eq}
use Rattle.std.specs.Int.{w16, w32, w64, from_le_bytes}
use Rattle.std.proofs.lemmas.Bool.{lt-ltb, le-ltb, ltb-true, ltb-false, le-leb, lt-leb, eq-eqb, ne_eqb, eqb-true, eqb-false}
use Rattle.std.proofs.lemmas.List.{length-drop, drop-drop}
use Rattle.kit_base.specs.Bytes.{le}
use Rattle.mint.specs.declared.kind.Count.{Count}
use Rattle.mint.specs.declared.kind.Count.TheVariants.{Exactly, AtMost, Any}
use Rattle.mint.specs.Types.{Scalar}
use Rattle.wire_def.specs.declared.encoding.Encoding.TheVariants.{Mach}
use Rattle.wire_def.specs.declared.fault.FaultKind.{FaultKind}
use Rattle.wire_def.specs.declared.fault.FaultKind.TheVariants.{Short, BadItem, OverBound}
use Rattle.wire_def.specs.Grammar.{Reading, got, stop, AreOctets, then_on, map_got}
use Rattle.wire_def.specs.Scalars.{gap, read_word}
use Rattle.wire_def.specs.Lone.{unit_name, unit_bits, units_of, short_word}
use Rattle.wire_def.specs.Described.{allowed, is_marked, takes, has_form, long_words, widened, is_whole, elements_in, is_fixed, is_right, reported_before, read_first, read_rest, read_described}
use Rattle.cast_stub.specs.Into.{same_octets, length_of, allows, little}
use Rattle.stub_lower.proofs.Agreeing.{SameEnds}
use Rattle.stub_lower.proofs.RecvEncoded.{same_true}
use Rattle.stub_lower.proofs.RecvItems.{word_is, word_read}
use Rattle.stub_lower.proofs.UnitLaws.{Units, single, twice, units, elements_back, elements_are}
use Rattle.wire_def.proofs.DescribedGrammar.{name_small, bits_small}
use Rattle.stub_lower.proofs.RecvCdrArrays.{allowed_alike}

-- the length of which so many units are the multiple, and that many units again
length_once : (m : ℕ) → length_of 1 0 m ≡ Some m
length_once m =
    let same : (m - 0) / 1 ≡ m = omega arith in
    let all : (m - 0) / 1 * 1 + 0 ≡ m = omega arith in
    ap (λ (k : ℕ). if nat_eq k m then Some ((m - 0) / 1) else None) all
    ∙ ap (λ (b : Bool). if b then Some ((m - 0) / 1) else None) (same_true m)
    ∙ ap (λ (k : ℕ). Some k) same

length_twice : (m : ℕ) → length_of 2 0 m ≡ (if nat_eq (m % 2) 0 then Some (m / 2) else None)
length_twice m = either (nat_eq (m % 2) 0) refl where
  half : (m - 0) / 2 ≡ m / 2
  half = omega arith

  either : (b : Bool) → nat_eq (m % 2) 0 ≡ b
      → (if nat_eq ((m - 0) / 2 * 2 + 0) m then Some ((m - 0) / 2) else None) ≡ (if b then Some (m / 2) else None)
  either true is =
      let even : m % 2 ≡ 0 = eqb-true (m % 2) 0 is in
      let all : (m - 0) / 2 * 2 + 0 ≡ m = omega (arith, even) in
      ap (λ (b : Bool). if b then Some ((m - 0) / 2) else None) (eq-eqb ((m - 0) / 2 * 2 + 0) m all) ∙ ap (λ (k : ℕ). Some k) half
  either false is =
      let odd = eqb-false (m % 2) 0 is in
      ap (λ (b : Bool). if b then Some ((m - 0) / 2) else None) (ne_eqb ((m - 0) / 2 * 2 + 0) m (λ e. odd (omega (arith, e))))

-- the length of so many units is that of their elements, where they are whole
length_units : (s : Scalar) (m : ℕ) → length_of (units_of s) 0 m ≡ (if is_whole s m then Some (elements_in s m) else None)
length_units s m = either (units s) where
  either : Units s → length_of (units_of s) 0 m ≡ (if is_whole s m then Some (elements_in s m) else None)
  either (single u whole count) = ap (λ (k : ℕ). length_of k 0 m) u ∙ length_once m
      ∙ sym (ap (λ (b : Bool). if b then Some (elements_in s m) else None) (whole m) ∙ ap (λ (k : ℕ). Some k) (count m))
  either (twice u whole count) = ap (λ (k : ℕ). length_of k 0 m) u ∙ length_twice m
      ∙ sym (ap (λ (b : Bool). if b then Some (elements_in s m) else None) (whole m)
      ∙ ap (λ (k : ℕ). if nat_eq (m % 2) 0 then Some k else None) (count m))

few_elements : (s : Scalar) (k : ℕ) → k < 4294967296 → elements_in s k < 4294967296
few_elements s k lt = either (units s) where
  either : Units s → elements_in s k < 4294967296
  either (single u w count) = let is = count k in omega (arith, lt, is)
  either (twice u w count) = let is = count k in omega (arith, lt, is)

-- ---- by what the code tests

-- a length, where it is there and allowed
abbrev pub counted_by : Count → Option ℕ → ℕ → List ℕ → Reading FaultKind ℕ
counted_by c None q r = stop BadItem q
counted_by c (Some n) q r = if allows c n then got n q r else stop OverBound q

-- so many units, where name and size are right
abbrev pub units_by : Count → ℕ → Bool → ℕ → ℕ → List ℕ → Reading FaultKind ℕ
units_by c mul right many q r = if right then counted_by c (length_of mul 0 many) q r else stop BadItem q

-- what a descriptor says, with its tests
abbrev said : Count → Scalar → ℕ → ℕ → List ℕ → Reading FaultKind ℕ
said c s d q r = if is_right c s d
    then (if allowed c (elements_in s (d / 2 ^ 32)) then got (elements_in s (d / 2 ^ 32)) q r else stop OverBound q)
    else stop BadItem q

-- a number that the count allows is the fixed one
fixed_so : (c : Count) (s : Scalar) (many : ℕ) → is_whole s many ≡ true → allowed c (elements_in s many) ≡ true → is_fixed c s many ≡ true
fixed_so (Exactly m) s many whole is = eq-eqb many (m * units_of s) (elements_back s many m whole (eqb-true (elements_in s many) m is))
fixed_so (AtMost m) s many whole is = refl
fixed_so Any s many whole is = refl

said_ends : (c : Count) (s : Scalar) (right : Bool) (d q : ℕ) (r : List ℕ) → d / 2 ^ 32 < 4294967296
    → right ≡ nat_eq (d % 2 ^ 32) (long_words (unit_name s) (unit_bits s) 0)
    → SameEnds (units_by c (units_of s) right (d / 2 ^ 32) q r) (said c s d q r)
said_ends c s right d q r few is =
    rw (length_units s (d / 2 ^ 32), ← is)
    (either right (is_whole s (d / 2 ^ 32)) refl (allowed c (elements_in s (d / 2 ^ 32))) refl (is_fixed c s (d / 2 ^ 32)) refl) where
      either : (right whole : Bool) → is_whole s (d / 2 ^ 32) ≡ whole → (fits : Bool) → allowed c (elements_in s (d / 2 ^ 32)) ≡ fits
          → (fixed : Bool)
          → is_fixed c s (d / 2 ^ 32) ≡ fixed
          → SameEnds (if right then counted_by c (if whole then Some (elements_in s (d / 2 ^ 32)) else None) q r else stop BadItem q)
          (if right && (whole && fixed) then (if fits then got (elements_in s (d / 2 ^ 32)) q r else stop OverBound q) else stop BadItem q)
      either false whole w fits f fixed x = tt
      either true false w fits f fixed x = tt
      either true true w true f true x =
          rw (allowed_alike c (elements_in s (d / 2 ^ 32)) (few_elements s (d / 2 ^ 32) few), f) (refl, refl, refl)
      either true true w true f false x = absurd (differ (sym (fixed_so c s (d / 2 ^ 32) w f) ∙ x)) where
        differ : true ≡ false → ⊥
        differ e = cc
      either true true w false f true x = rw (allowed_alike c (elements_in s (d / 2 ^ 32)) (few_elements s (d / 2 ^ 32) few), f) tt
      either true true w false f false x = rw (allowed_alike c (elements_in s (d / 2 ^ 32)) (few_elements s (d / 2 ^ 32) few), f) tt

-- name and size, each by itself
pair_same : (x y name bits : ℕ) → x < 65536 → name < 65536
    → (nat_eq x name && nat_eq y bits) ≡ nat_eq (x + 65536 * y) (long_words name bits 0)
pair_same x y name bits lt few = either (nat_eq x name) refl (nat_eq y bits) refl where
  either : (a : Bool) → nat_eq x name ≡ a → (b : Bool) → nat_eq y bits ≡ b → (a && b) ≡ nat_eq (x + 65536 * y) (long_words name bits 0)
  either true i true j =
      let p = eqb-true x name i in
      let q = eqb-true y bits j in
      sym (eq-eqb (x + 65536 * y) (long_words name bits 0) (omega (arith, p, q)))
  either true i false j =
      let q = eqb-false y bits j in
      sym (ne_eqb (x + 65536 * y) (long_words name bits 0) (λ e. q (omega (arith, lt, few, e))))
  either false i b j =
      let p = eqb-false x name i in
      sym (ne_eqb (x + 65536 * y) (long_words name bits 0) (λ e. p (omega (arith, lt, few, e))))

-- the long form: name and size in two octets each after the first word, and the number in four
abbrev pub long_right : Scalar → List ℕ → Bool
long_right s o = nat_eq (little w16 4 2 o) (unit_name s) && nat_eq (little w16 6 2 o) (unit_bits s)

-- what 8 octets say, in parts
record Parted (o : List ℕ) : Type 0 where
  low : little w16 4 2 o + 65536 * little w16 6 2 o ≡ from_le_bytes w64 (take 8 (drop 4 o)) % 2 ^ 32
  high : little w32 8 4 o ≡ from_le_bytes w64 (take 8 (drop 4 o)) / 2 ^ 32
  few : little w16 4 2 o < 65536
  many : little w32 8 4 o < 4294967296

parted : (o : List ℕ) → AreOctets o → 12 ≤ length o → Parted o
parted (a ∷ b ∷ c ∷ d ∷ e ∷ f ∷ g ∷ i ∷ j ∷ k ∷ l ∷ m ∷ o) oct h =
    let e_few : e < 256 = oct.1.1.1.1.0 in
    let f_few : f < 256 = oct.1.1.1.1.1.0 in
    let g_few : g < 256 = oct.1.1.1.1.1.1.0 in
    let i_few : i < 256 = oct.1.1.1.1.1.1.1.0 in
    let j_few : j < 256 = oct.1.1.1.1.1.1.1.1.0 in
    let k_few : k < 256 = oct.1.1.1.1.1.1.1.1.1.0 in
    let l_few : l < 256 = oct.1.1.1.1.1.1.1.1.1.1.0 in
    let m_few : m < 256 = oct.1.1.1.1.1.1.1.1.1.1.1.0 in record {
      low = omega (arith, e_few, f_few, g_few, i_few);
      high = omega (arith, e_few, f_few, g_few, i_few);
      few = omega (arith, e_few, f_few);
      many = omega (arith, j_few, k_few, l_few, m_few);
    }
parted _ oct h = absurd (omega (arith, h))

module _ (c : Count) (s : Scalar) where
  -- the long form
  abbrev long_by : ℕ → List ℕ → Reading FaultKind ℕ
  long_by p o = if nat_lt (length o) 12 then stop Short p
      else units_by c (units_of s) (long_right s o) (little w32 8 4 o) (p + 12) (drop 12 o)

  -- the short form, of its word
  abbrev short_by : ℕ → ℕ → List ℕ → Reading FaultKind ℕ
  short_by m p o = units_by c (units_of s) (nat_eq (m % 256) (unit_name s) && nat_eq (m / 256 % 256) (unit_bits s)) (m / 65536 % 4096)
      (p + 4) (drop 4 o)

  -- either
  abbrev pub desc_by : ℕ → List ℕ → Reading FaultKind ℕ
  desc_by p o =
      if nat_lt (length o) 4 then stop Short p
      else (if is_marked (little w32 0 4 o) then long_by p o
      else (if nat_eq (little w32 0 4 o / 2 ^ 28) 1 then short_by (little w32 0 4 o) p o else stop BadItem p))

  -- a reader of what a descriptor says, with its tests
  abbrev reported : Reading FaultKind (ℕ × ℕ) → ℕ → Reading FaultKind ℕ
  reported r p = then_on
      (map_got (λ (x : ℕ × ℕ). elements_in s (x.1 / 2 ^ 32)) (then_on r (λ x q l. if is_right c s x.1 then got x q l else stop BadItem p)))
      (λ n q l. if allowed c n then got n q l else stop OverBound p)

  reported_so : (m d p q : ℕ) (r : List ℕ) → SameEnds (said c s d q r) (reported (got (m, d) q r) p)
  reported_so m d p q r = either (is_right c s d) (allowed c (elements_in s (d / 2 ^ 32))) refl where
    either : (right fits : Bool) → allowed c (elements_in s (d / 2 ^ 32)) ≡ fits
        → SameEnds (if right then (if fits then got (elements_in s (d / 2 ^ 32)) q r else stop OverBound q) else stop BadItem q)
        (then_on (map_got (λ (x : ℕ × ℕ). elements_in s (x.1 / 2 ^ 32)) (if right then got (m, d) q r else stop BadItem p))
        (λ n q l. if allowed c n then got n q l else stop OverBound p))
    either true true is = rw is (refl, refl, refl)
    either true false is = rw is tt
    either false fits is = tt

  -- ---- a descriptor in either form

  ends_after : (x y z : Reading FaultKind ℕ) → SameEnds x y → SameEnds y z → SameEnds x z
  ends_after (got a p o) (got b q r) (got d m l) h k = (h.0 ∙ k.0, h.1 ∙ k.1, h.2 ∙ k.2)
  ends_after (stop a p) (stop b q) (stop d m) h k = tt
  ends_after (got a p o) (stop b q) z h k = absurd h
  ends_after (stop a p) (got b q r) z h k = absurd h
  ends_after (got a p o) (got b q r) (stop d m) h k = absurd k
  ends_after (stop a p) (stop b q) (got d m l) h k = absurd k

  -- a reading that stops
  abbrev Stopped : Reading FaultKind ℕ → Type 0
  Stopped (got n q r) = ⊥
  Stopped (stop k at) = Unit {0}

  stopped_ends : (x : Reading FaultKind ℕ) (k : FaultKind) (at : ℕ) → Stopped x → SameEnds x (stop k at)
  stopped_ends (stop j to) k at h = tt
  stopped_ends (got n q r) k at h = absurd h

  -- where the short form is not allowed, its few units are not a length either
  abbrev TakesShort : Type 0
  TakesShort = (takes c s false ≡ true)
      ⊎ ((takes c s false ≡ false)
      × ((right : Bool) (many q : ℕ) (r : List ℕ) → many < 4096 → Stopped (units_by c (units_of s) right many q r)))

  long_read : (p : ℕ) (o : List ℕ)
      → read_word Mach 1 w64 p o
      ≡ (if nat_lt (length o) 8 then stop Short (p + 0) else got (from_le_bytes w64 (take 8 o)) (p + 8) (drop 8 o))
  unfolding read_word
  long_read p o =
      let none : gap p 1 ≡ 0 = omega arith in
      ap (λ (g : ℕ). if nat_lt (length o) (g + 8) then stop Short (p + g)
      else got (from_le_bytes w64 (take 8 (drop g o))) (p + (g + 8)) (drop 8 (drop g o))) none

  short_shift : (l : ℕ) → 4 ≤ l → nat_lt (l - 4) 8 ≡ nat_lt l 12
  short_shift l h = decided (nat_lt l 12) refl where
    decided : (x : Bool) → nat_lt l 12 ≡ x → nat_lt (l - 4) 8 ≡ x
    decided true e = lt-ltb (l - 4) 8 (omega (arith, h, ltb-true l 12 e))
    decided false e = le-ltb (l - 4) 8 (omega (arith, h, ltb-false l 12 e))

  pub desc_ends : (p : ℕ) (o : List ℕ) → AreOctets o → takes c s true ≡ true → TakesShort → SameEnds (desc_by p o) (read_described c s p o)
  unfolding read_described read_first read_rest reported_before
  desc_ends p o oct long short = rw word_read (first (nat_lt (length o) 4) refl) where
    wide : (b : Bool) → nat_lt (length o) 12 ≡ b → 4 ≤ length o
        → SameEnds (if b then stop Short p else units_by c (units_of s) (long_right s o) (little w32 8 4 o) (p + 12) (drop 12 o))
        (reported (map_got (λ y. (from_le_bytes w32 (take 4 o), y)) (reported_before (p + 4 - 4)
        (if b then stop Short (p + 4 + 0) else got (from_le_bytes w64 (take 8 (drop 4 o))) (p + 4 + 8) (drop 8 (drop 4 o))))) p)
    wide true is near = tt
    wide false is near =
        let parts = parted o oct (ltb-false (length o) 12 is) in
        let past : p + 4 + 8 ≡ p + 12 = omega arith in
        let few : from_le_bytes w64 (take 8 (drop 4 o)) / 2 ^ 32 < 4294967296 = omega (arith, parts.many, parts.high) in
        let right : long_right s o ≡ nat_eq (from_le_bytes w64 (take 8 (drop 4 o)) % 2 ^ 32) (long_words (unit_name s) (unit_bits s) 0) =
        pair_same (little w16 4 2 o) (little w16 6 2 o) (unit_name s) (unit_bits s) parts.few (omega (arith, name_small s))
        ∙ ap (λ (x : ℕ). nat_eq x (long_words (unit_name s) (unit_bits s) 0)) parts.low in
        ends_after (units_by c (units_of s) (long_right s o) (little w32 8 4 o) (p + 12) (drop 12 o))
        (said c s (from_le_bytes w64 (take 8 (drop 4 o))) (p + 12) (drop 12 o)) _
        (subst (λ (x : ℕ). SameEnds (units_by c (units_of s) (long_right s o) x (p + 12) (drop 12 o))
        (said c s (from_le_bytes w64 (take 8 (drop 4 o))) (p + 12) (drop 12 o))) (sym parts.high)
        (said_ends c s (long_right s o) (from_le_bytes w64 (take 8 (drop 4 o))) (p + 12) (drop 12 o) few right))
        (rw (past, drop-drop 8 4 o) (reported_so (from_le_bytes w32 (take 4 o)) (from_le_bytes w64 (take 8 (drop 4 o)))
        p (p + 12) (drop 12 o)))

    narrow : (b : Bool) → is_marked (from_le_bytes w32 (take 4 o)) ≡ false → nat_eq (from_le_bytes w32 (take 4 o) / 2 ^ 28) 1 ≡ b
        → TakesShort
        → SameEnds (if b then short_by (from_le_bytes w32 (take 4 o)) p o else stop BadItem p)
        (reported (then_on (if b && takes c s false then got (from_le_bytes w32 (take 4 o)) (p + 4) (drop 4 o) else stop BadItem p)
        (λ x q r. map_got (λ y. (x, y)) (if is_marked x then reported_before (q - 4) (read_word Mach 1 w64 q r)
        else got (widened x) q r))) p)
    narrow false is b may = tt
    narrow true is b (inl ok) =
        let x : ℕ = from_le_bytes w32 (take 4 o) in
        let high : widened x / 2 ^ 32 ≡ x / 65536 % 4096 = omega arith in
        let low : widened x % 2 ^ 32 ≡ x % 256 + 65536 * (x / 256 % 256) = omega arith in
        let right : (nat_eq (x % 256) (unit_name s) && nat_eq (x / 256 % 256) (unit_bits s))
        ≡ nat_eq (widened x % 2 ^ 32) (long_words (unit_name s) (unit_bits s) 0) =
        pair_same (x % 256) (x / 256 % 256) (unit_name s) (unit_bits s) (omega arith) (omega (arith, name_small s))
        ∙ ap (λ (k : ℕ). nat_eq k (long_words (unit_name s) (unit_bits s) 0)) (sym low) in
        rw (ok, is)
        (ends_after (short_by x p o) (said c s (widened x) (p + 4) (drop 4 o)) (reported (got (x, widened x) (p + 4) (drop 4 o)) p)
        (subst (λ (k : ℕ). SameEnds
        (units_by c (units_of s) (nat_eq (x % 256) (unit_name s) && nat_eq (x / 256 % 256) (unit_bits s)) k (p + 4) (drop 4 o))
        (said c s (widened x) (p + 4) (drop 4 o))) high
        (said_ends c s (nat_eq (x % 256) (unit_name s) && nat_eq (x / 256 % 256) (unit_bits s)) (widened x) (p + 4) (drop 4 o)
        (omega (arith, high)) right))
        (reported_so x (widened x) p (p + 4) (drop 4 o)))
    narrow true is b (inr off) =
        let x : ℕ = from_le_bytes w32 (take 4 o) in
        rw off.0 (stopped_ends (short_by x p o) BadItem p (off.1 (nat_eq (x % 256) (unit_name s) && nat_eq (x / 256 % 256) (unit_bits s))
        (x / 65536 % 4096) (p + 4) (drop 4 o) (omega arith)))

    form : (b : Bool) → is_marked (from_le_bytes w32 (take 4 o)) ≡ b → 4 ≤ length o
        → SameEnds (if b then long_by p o
        else (if nat_eq (from_le_bytes w32 (take 4 o) / 2 ^ 28) 1 then short_by (from_le_bytes w32 (take 4 o)) p o else stop BadItem p))
        (reported (then_on (if (if b then takes c s true else nat_eq (from_le_bytes w32 (take 4 o) / 2 ^ 28) 1 && takes c s false)
        then got (from_le_bytes w32 (take 4 o)) (p + 4) (drop 4 o)
        else stop BadItem p)
        (λ x q r. map_got (λ y. (x, y)) (if is_marked x then reported_before (q - 4) (read_word Mach 1 w64 q r)
        else got (widened x) q r))) p)
    form true is near =
        let shorter = ap (λ (l : ℕ). nat_lt l 8) (length-drop 4 o) ∙ short_shift (length o) near in
        rw (long, is, long_read, shorter) (wide (nat_lt (length o) 12) refl near)
    form false is near = narrow (nat_eq (from_le_bytes w32 (take 4 o) / 2 ^ 28) 1) is refl short

    first : (b : Bool) → nat_lt (length o) 4 ≡ b
        → SameEnds (if b then stop Short p
        else (if is_marked (from_le_bytes w32 (take 4 o)) then long_by p o
        else (if nat_eq (from_le_bytes w32 (take 4 o) / 2 ^ 28) 1 then short_by (from_le_bytes w32 (take 4 o)) p o else stop BadItem p)))
        (reported (then_on (then_on (if b then stop Short (p + 0) else got (from_le_bytes w32 (take 4 o)) (p + 4) (drop 4 o))
        (λ x q r. if has_form c s x then got x q r else stop BadItem p))
        (λ x q r. map_got (λ y. (x, y)) (if is_marked x then reported_before (q - 4) (read_word Mach 1 w64 q r)
        else got (widened x) q r))) p)
    first true is = tt
    first false is = form (is_marked (from_le_bytes w32 (take 4 o))) refl (ltb-false (length o) 4 is)

-- a number that is not fixed takes both forms
pub free_ends : (c : Count) (s : Scalar) (p : ℕ) (o : List ℕ) → AreOctets o → ((m : ℕ) → c ≡ Exactly m → ⊥)
    → SameEnds (desc_by c s p o) (read_described c s p o)
free_ends (Exactly m) s p o oct free = absurd (free m refl)
free_ends (AtMost m) s p o oct free = desc_ends (AtMost m) s p o oct refl (inl refl)
free_ends Any s p o oct free = desc_ends Any s p o oct refl (inl refl)

-- a fixed number of more than 4,095 units takes the long form alone
pub long_ends : (m : ℕ) (s : Scalar) (p : ℕ) (o : List ℕ) → AreOctets o → nat_lt 4095 (m * units_of s) ≡ true
    → SameEnds (desc_by (Exactly m) s p o) (read_described (Exactly m) s p o)
long_ends m s p o oct long = desc_ends (Exactly m) s p o oct long (inr (short, stops)) where
  above : 4095 < m * units_of s
  above = ltb-true 4095 (m * units_of s) long

  short : nat_le (m * units_of s) 4095 ≡ false
  short = lt-leb (m * units_of s) 4095 above

  few : (many n q : ℕ) (r : List ℕ) → many < 4096 → is_whole s many ≡ true → elements_in s many ≡ n → (b : Bool) → nat_eq n m ≡ b
      → Stopped (Exactly m) s (if b then got n q r else stop OverBound q)
  few many n q r lt whole is true same =
      let back : many ≡ m * units_of s = elements_back s many m whole (is ∙ eqb-true n m same) in
      absurd (omega (arith, above, lt, back))
  few many n q r lt whole is false same = tt

  stops : (right : Bool) (many q : ℕ) (r : List ℕ) → many < 4096 → Stopped (Exactly m) s (units_by (Exactly m) (units_of s) right many q r)
  stops false many q r lt = tt
  stops true many q r lt = rw (length_units s many) (either (is_whole s many) refl) where
    either : (w : Bool) → is_whole s many ≡ w
        → Stopped (Exactly m) s (counted_by (Exactly m) (if w then Some (elements_in s many) else None) q r)
    either true is = few many (elements_in s many) q r lt is refl (nat_eq (elements_in s many) m) refl
    either false is = tt

-- ---- the one short descriptor of a fixed number

abbrev pub fixed_word : Scalar → ℕ → ℕ
fixed_word s m = short_word (unit_name s) (unit_bits s) (m * units_of s)

abbrev pub fixed_by : Scalar → ℕ → ℕ → List ℕ → Reading FaultKind ℕ
fixed_by s m p o = if nat_lt (length o) 4 then stop Short p
    else (if same_octets (le 4 (fixed_word s m)) (take 4 o) then got m (p + 4) (drop 4 o) else stop BadItem p)

module _ (m : ℕ) (s : Scalar) (few : m * units_of s ≤ 4095) where
  word_few : fixed_word s m < 4294967296
  word_few = omega (arith, few, name_small s, bits_small s)

  abbrev U : ℕ
  U = m * units_of s

  -- what the word says
  said_so : (x q : ℕ) (r : List ℕ) → x / 2 ^ 28 ≡ 1 → (b : Bool) → nat_eq x (fixed_word s m) ≡ b
      → SameEnds (if b then got m q r else stop BadItem q) (said (Exactly m) s (widened x) q r)
  said_so x q r one true is =
      let same : x ≡ fixed_word s m = eqb-true x (fixed_word s m) is in
      let high : widened x / 2 ^ 32 ≡ U = omega (arith, same, few, name_small s, bits_small s) in
      let low : widened x % 2 ^ 32 ≡ long_words (unit_name s) (unit_bits s) 0 = omega (arith, same, few, name_small s, bits_small s) in
      let e = elements_are s m in
      rw (high, eq-eqb (widened x % 2 ^ 32) (long_words (unit_name s) (unit_bits s) 0) low, e.0, same_true U, e.1, same_true m)
      (refl, refl, refl)
  said_so x q r one false is = either (nat_eq (widened x % 2 ^ 32) (long_words (unit_name s) (unit_bits s) 0)) refl
      (is_whole s (widened x / 2 ^ 32)) (nat_eq (widened x / 2 ^ 32) U) refl where
        either : (low : Bool) → nat_eq (widened x % 2 ^ 32) (long_words (unit_name s) (unit_bits s) 0) ≡ low → (whole : Bool)
            → (fixed : Bool)
            → nat_eq (widened x / 2 ^ 32) U ≡ fixed
            → SameEnds (stop BadItem q)
            (if low
            && (whole && fixed) then
            (if allowed (Exactly m) (elements_in s (widened x / 2 ^ 32)) then got (elements_in s (widened x / 2 ^ 32)) q r
            else stop OverBound q) else stop BadItem q)
        either false l whole fixed f = tt
        either true l false fixed f = tt
        either true l true false f = tt
        either true l true true f =
            let a = eqb-true (widened x % 2 ^ 32) (long_words (unit_name s) (unit_bits s) 0) l in
            let b = eqb-true (widened x / 2 ^ 32) U f in
            absurd (eqb-false x (fixed_word s m) is (omega (arith, a, b, one, few, name_small s, bits_small s)))

  pub fixed_ends : (p : ℕ) (o : List ℕ) → AreOctets o → SameEnds (fixed_by s m p o) (read_described (Exactly m) s p o)
  unfolding read_described read_first read_rest reported_before
  fixed_ends p o oct = rw word_read (first (nat_lt (length o) 4) refl) where
    other : (x : ℕ) → (x / 2 ^ 28 ≡ 1 → ⊥) → nat_eq x (fixed_word s m) ≡ false
    other x off = ne_eqb x (fixed_word s m) (λ same. off (omega (arith, same, few, name_small s, bits_small s)))

    plain : (x : ℕ) → is_marked x ≡ false → (b : Bool) → nat_eq (x / 2 ^ 28) 1 ≡ b
        → SameEnds (if nat_eq x (fixed_word s m) then got m (p + 4) (drop 4 o) else stop BadItem p)
        (reported (Exactly m) s (then_on (if b && nat_le U 4095 then got x (p + 4) (drop 4 o) else stop BadItem p)
        (λ x q r. map_got (λ y. (x, y)) (if is_marked x then reported_before (q - 4) (read_word Mach 1 w64 q r)
        else got (widened x) q r))) p)
    plain x is false one = rw (other x (eqb-false (x / 2 ^ 28) 1 one)) tt
    plain x is true one =
        rw (le-leb U 4095 few, is)
        (ends_after (Exactly m) s (if nat_eq x (fixed_word s m) then got m (p + 4) (drop 4 o) else stop BadItem p)
        (said (Exactly m) s (widened x) (p + 4) (drop 4 o)) (reported (Exactly m) s (got (x, widened x) (p + 4) (drop 4 o)) p)
        (either (nat_eq x (fixed_word s m)) refl) (reported_so (Exactly m) s x (widened x) p (p + 4) (drop 4 o))) where
          at_fault : (b : Bool) (z : Reading FaultKind ℕ) → SameEnds (if b then got m (p + 4) (drop 4 o) else stop BadItem (p + 4)) z
              → SameEnds (if b then got m (p + 4) (drop 4 o) else stop BadItem p) z
          at_fault true z h = h
          at_fault false (stop k at) h = tt
          at_fault false (got y q r) h = absurd h

          either : (b : Bool) → nat_eq x (fixed_word s m) ≡ b
              → SameEnds (if b then got m (p + 4) (drop 4 o) else stop BadItem p) (said (Exactly m) s (widened x) (p + 4) (drop 4 o))
          either b same = at_fault b (said (Exactly m) s (widened x) (p + 4) (drop 4 o))
              (said_so x (p + 4) (drop 4 o) (eqb-true (x / 2 ^ 28) 1 one) b same)

    form : (x : ℕ) (b : Bool) → is_marked x ≡ b
        → SameEnds (if nat_eq x (fixed_word s m) then got m (p + 4) (drop 4 o) else stop BadItem p)
        (reported (Exactly m) s
        (then_on
        (if (if b then nat_lt 4095 U else nat_eq (x / 2 ^ 28) 1 && nat_le U 4095) then got x (p + 4) (drop 4 o) else stop BadItem p)
        (λ x q r. map_got (λ y. (x, y)) (if is_marked x then reported_before (q - 4) (read_word Mach 1 w64 q r)
        else got (widened x) q r))) p)
    form x true is =
        let three : x / 2 ^ 28 ≡ 3 = eqb-true (x / 2 ^ 28) 3 is in
        rw (other x (λ one. omega (arith, one, three)), le-ltb 4095 U few) tt
    form x false is = plain x is (nat_eq (x / 2 ^ 28) 1) refl

    first : (b : Bool) → nat_lt (length o) 4 ≡ b
        → SameEnds
        (if b then stop Short p else (if same_octets (le 4 (fixed_word s m)) (take 4 o) then got m (p + 4) (drop 4 o) else stop BadItem p))
        (reported (Exactly m) s (then_on (then_on (if b then stop Short (p + 0) else got (from_le_bytes w32 (take 4 o)) (p + 4) (drop 4 o))
        (λ x q r. if has_form (Exactly m) s x then got x q r else stop BadItem p))
        (λ x q r. map_got (λ y. (x, y)) (if is_marked x then reported_before (q - 4) (read_word Mach 1 w64 q r)
        else got (widened x) q r))) p)
    first true is = tt
    first false is = rw (word_is (fixed_word s m) o word_few oct (ltb-false (length o) 4 is))
        (form (from_le_bytes w32 (take 4 o)) (is_marked (from_le_bytes w32 (take 4 o))) refl)
