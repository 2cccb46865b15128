-- Descriptors of arrays are a grammar, and what is sent is one.
use Rattle.std.proofs.Common.{◌≡◌, ◌⊎◌, ℕ, ◌+◌, ◌*◌, ◌-◌, ◌/◌, ◌%◌, ◌^◌, ◌<◌, ◌≤◌, List, [], ◌++◌, length, Bool, true, false, ◌&&◌, cond, refl, sym, arith}
use Rattle.std.specs.Prelude.{MatchBool, nat_eq}
use Rattle.std.specs.Int.{w32, w64}
use Rattle.std.proofs.lemmas.Bool.{ltb-false, le-leb, leb-true, eq-eqb, eqb-true, and_from}
use Rattle.std.proofs.lemmas.List.{append-nil}
use Rattle.std.proofs.Math.Nat.{mul-le-mul_left, mul-le-mul_right}
use Rattle.kit_base.specs.Bytes.{le}
use Rattle.mint.specs.declared.kind.Kind.TheVariants as kind
use Rattle.mint.specs.declared.kind.Count.{Count}
use Rattle.mint.specs.declared.kind.Count.TheVariants.{Exactly, AtMost, Any}
use Rattle.mint.specs.Kinds.{Allows}
use Rattle.mint.specs.Types.{Scalar, number, label}
use Rattle.wire_def.specs.declared.encoding.Encoding.TheVariants.{Mach}
use Rattle.wire_def.specs.declared.fault.FaultKind.{FaultKind}
use Rattle.wire_def.specs.declared.fault.FaultKind.TheVariants.{OverBound, BadItem}
use Rattle.wire_def.specs.Grammar.{Reading, Reader, Spelling, Stopping, got, stop, Parts, both, map_got, tested, IsGrammar}
use Rattle.wire_def.specs.Scalars.{gap, WordSpells}
use Rattle.wire_def.specs.Lone.{unit_name, unit_bits, units_of, short_word}
use Rattle.wire_def.specs.Described.{allowed, is_long, long_mark, long_words, described_octets, is_marked, takes, has_form, widened, is_whole, elements_in, is_fixed, is_right, reported_before, FirstSpells, FirstStops, read_first, RestSpells, RestStops, read_rest, FormSpells, FormStops, ManySpell, DescribedSpells, DescribedStops, read_described}
use Rattle.wire_def.proofs.Grammars.{done, mapped, both_are, tested_are}
use Rattle.wire_def.proofs.Words.{word_is, desc_wide, rest_wide}

-- ---- a grammar

before_got : {A : Type 0} (p : ℕ) (r : Reading FaultKind A) (x : A) (q : ℕ) (o : List ℕ) → reported_before p r ≡ got x q o → r ≡ got x q o
unfolding reported_before
before_got p (got y m b) x q o e = e
before_got p (stop k at) x q o e = absurd cc

before_stop : {A : Type 0} (p : ℕ) (r : Reading FaultKind A) (k : FaultKind) (at : ℕ) → reported_before p r ≡ stop k at
    → (place : ℕ) × (r ≡ stop k place) × (at ≡ p)
unfolding reported_before
before_stop p (got y m b) k at e = absurd cc
before_stop p (stop k' at') k at e = (at', cc, cc)

before_is : {A : Type 0} {r : Reader FaultKind A} {S : Spelling A} {F : Stopping FaultKind} → IsGrammar r S F
    → IsGrammar (λ p o. reported_before (p - 4) (r p o)) S (λ p o k at. (place : ℕ) × F p o k place × (at ≡ p - 4))
unfolding reported_before
before_is {A} {r} {S} {F} g = record {
  reads = λ p o rest x s. rw (g.reads p o rest x s) refl;
  spelled = λ p o x q rest oct e. g.spelled p o x q rest oct (before_got (p - 4) (r p o) x q rest e);
  stops = λ p o k at f. rw (g.stops p o k f.0 f.1, f.2) refl;
  faulty = λ p o k at oct e. let s = before_stop (p - 4) (r p o) k at e in (s.0, g.faulty p o k s.0 oct s.1, s.2);
}

first_is : (c : Count) (s : Scalar) → IsGrammar (read_first c s) (FirstSpells c s) (FirstStops c s)
unfolding read_first FirstSpells FirstStops
first_is c s = tested_are (has_form c s) BadItem (λ p. p) (word_is Mach 1 w32 desc_wide)

-- a choice of two
pub chosen : {E A : Type 0} (b : Bool) {r r' : Reader E A} {S S' : Spelling A} {F F' : Stopping E} → IsGrammar r S F → IsGrammar r' S' F'
    → IsGrammar (λ p o. cond b (r p o) (r' p o)) (λ p o x. MatchBool b (S p o x) (S' p o x))
    (λ p o k at. MatchBool b (F p o k at) (F' p o k at))
chosen true g g' = g
chosen false g g' = g'

rest_is : (m : ℕ) → IsGrammar (read_rest m) (RestSpells m) (RestStops m)
unfolding read_rest RestSpells RestStops
rest_is m = chosen (is_marked m) (before_is (word_is Mach 1 w64 rest_wide))
    (done (widened m) (λ p o d. (o ≡ []) × (widened m ≡ d)) (λ p. (refl, refl)) (λ p o y h. h))

form_is : (c : Count) (s : Scalar) → IsGrammar (both (read_first c s) read_rest) (FormSpells c s) (FormStops c s)
form_is c s = both_are (first_is c s) rest_is

many_is : (c : Count) (s : Scalar)
    → IsGrammar
    (λ q b. map_got (λ x. elements_in s (x.1 / 2 ^ 32))
    (tested (both (read_first c s) read_rest) (λ x. is_right c s x.1) BadItem (λ p. p) q b))
    (ManySpell c s) (λ p o k at. FormStops c s p o k at
    ⊎ ((x : ℕ × ℕ) × Parts p o (λ a. FormSpells c s p a x) (λ q b. (is_right c s x.1 ≡ false) × (k ≡ BadItem) × (at ≡ p))))
many_is c s =
    mapped
    (λ (x : ℕ × ℕ). elements_in s (x.1 / 2 ^ 32)) (ManySpell c s) (tested_are (λ (x : ℕ × ℕ). is_right c s x.1) BadItem (λ p.
    p) (form_is c s))
    (λ p o x h. (x, refl, h.0, h.1)) (λ p o n h. (h.0, h.1, (h.2, h.3)))

pub described_is : (c : Count) (s : Scalar) → IsGrammar (read_described c s) (DescribedSpells c s) (DescribedStops c s)
unfolding read_described DescribedSpells DescribedStops
described_is c s = tested_are (allowed c) OverBound (λ p. p) (many_is c s)

-- ---- how long, and how many

pub described_long : (c : Count) (s : Scalar) (p : ℕ) (o : List ℕ) (n : ℕ) → DescribedSpells c s p o n → 1 ≤ length o
unfolding DescribedSpells FirstSpells WordSpells
described_long c s p o n ((x, many, (a, b, is, ((junk, len, word, lt), form), rest), right), ok) =
    rw (is, word) (simp (Rattle.std.proofs.lemmas.List.length-append) (omega (arith, desc_wide.len x.0)))

rest_below : (b : Bool) (m p : ℕ) (o : List ℕ) (d : ℕ) → MatchBool b (WordSpells Mach 1 w64 p o d) ((o ≡ []) × (widened m ≡ d)) → d < 2 ^ 64
unfolding WordSpells
rest_below true m p o d (junk, len, is, lt) = lt
rest_below false m p o d (none, is) = rw (← is) (omega arith)

few_elements : (s : Scalar) (k : ℕ) → k < 2 ^ 32 → elements_in s k < 4294967296
few_elements (label ls) k h = omega arith
few_elements (number kind.I64) k h = omega arith
few_elements (number kind.U64) k h = omega arith
few_elements (number kind.Octet) k h = omega arith
few_elements (number kind.I8) k h = omega arith
few_elements (number kind.U8) k h = omega arith
few_elements (number kind.Char) k h = omega arith
few_elements (number kind.I16) k h = omega arith
few_elements (number kind.U16) k h = omega arith
few_elements (number kind.I32) k h = omega arith
few_elements (number kind.U32) k h = omega arith
few_elements (number kind.Bool) k h = omega arith

pub allows : (c : Count) (n : ℕ) → n < 4294967296 → allowed c n ≡ true → Allows c n
allows (Exactly m) n few ok = eqb-true n m ok
allows (AtMost m) n few ok = (leb-true n m ok, few)
allows Any n few ok = few

pub described_typed : (c : Count) (s : Scalar) (p : ℕ) (o : List ℕ) (n : ℕ) → DescribedSpells c s p o n → Allows c n
unfolding DescribedSpells RestSpells
described_typed c s p o n ((x, many, (a, b, is, first, rest), right), ok) =
    let below = rest_below (is_marked x.0) x.0 (p + length a) b x.1 rest in
    allows c n (rw (← many) (few_elements s (x.1 / 2 ^ 32) (omega arith))) ok

-- ---- what is sent is spelled

-- a unit of a scalar, in bounds
units_small : (s : Scalar) → (units_of s ≤ 2) × (unit_name s < 256) × (unit_bits s < 256)
units_small (label ls) = (omega arith, omega arith, omega arith)
units_small (number kind.Octet) = (omega arith, omega arith, omega arith)
units_small (number kind.I8) = (omega arith, omega arith, omega arith)
units_small (number kind.U8) = (omega arith, omega arith, omega arith)
units_small (number kind.Char) = (omega arith, omega arith, omega arith)
units_small (number kind.I16) = (omega arith, omega arith, omega arith)
units_small (number kind.U16) = (omega arith, omega arith, omega arith)
units_small (number kind.I32) = (omega arith, omega arith, omega arith)
units_small (number kind.U32) = (omega arith, omega arith, omega arith)
units_small (number kind.I64) = (omega arith, omega arith, omega arith)
units_small (number kind.U64) = (omega arith, omega arith, omega arith)
units_small (number kind.Bool) = (omega arith, omega arith, omega arith)

pub units_few : (s : Scalar) → units_of s ≤ 2
units_few s = (units_small s).0

pub name_small : (s : Scalar) → unit_name s < 256
name_small s = (units_small s).1

pub bits_small : (s : Scalar) → unit_bits s < 256
bits_small s = (units_small s).2

pub whole_of : (s : Scalar) (n : ℕ) → is_whole s (n * units_of s) ≡ true
whole_of (label ls) n = refl
whole_of (number kind.I64) n = eq-eqb (n * 2 % 2) 0 (omega arith)
whole_of (number kind.U64) n = eq-eqb (n * 2 % 2) 0 (omega arith)
whole_of (number kind.Octet) n = refl
whole_of (number kind.I8) n = refl
whole_of (number kind.U8) n = refl
whole_of (number kind.Char) n = refl
whole_of (number kind.I16) n = refl
whole_of (number kind.U16) n = refl
whole_of (number kind.I32) n = refl
whole_of (number kind.U32) n = refl
whole_of (number kind.Bool) n = refl

pub elements_of : (s : Scalar) (n : ℕ) → elements_in s (n * units_of s) ≡ n
elements_of (label ls) n = omega arith
elements_of (number kind.I64) n = omega arith
elements_of (number kind.U64) n = omega arith
elements_of (number kind.Octet) n = omega arith
elements_of (number kind.I8) n = omega arith
elements_of (number kind.U8) n = omega arith
elements_of (number kind.Char) n = omega arith
elements_of (number kind.I16) n = omega arith
elements_of (number kind.U16) n = omega arith
elements_of (number kind.I32) n = omega arith
elements_of (number kind.U32) n = omega arith
elements_of (number kind.Bool) n = omega arith

fixed_of : (c : Count) (s : Scalar) (n : ℕ) → Allows c n → is_fixed c s (n * units_of s) ≡ true
fixed_of (Exactly m) s n h = rw h (eq-eqb (m * units_of s) (m * units_of s) refl)
fixed_of (AtMost m) s n h = refl
fixed_of Any s n h = refl

pub is_allowed : (c : Count) (n : ℕ) → Allows c n → allowed c n ≡ true
is_allowed (Exactly m) n h = eq-eqb n m h
is_allowed (AtMost m) n h = le-leb n m h.0
is_allowed Any n h = refl

takes_long : (c : Count) (s : Scalar) → is_long c s ≡ true → takes c s true ≡ true
takes_long (Exactly m) s h = h
takes_long (AtMost m) s h = refl
takes_long Any s h = refl

takes_short : (c : Count) (s : Scalar) → is_long c s ≡ false → takes c s false ≡ true
takes_short (Exactly m) s h = le-leb (m * units_of s) 4095 (ltb-false 4095 (m * units_of s) h)
takes_short (AtMost m) s h = refl
takes_short Any s h = refl

few_units : (c : Count) (s : Scalar) (n : ℕ) → is_long c s ≡ false → Allows c n → n * units_of s ≤ 4095
few_units (Exactly m) s n short h = rw h (ltb-false 4095 (m * units_of s) short)
few_units (AtMost m) s n short h =
    let less : n * units_of s ≤ m * units_of s = mul-le-mul_right (units_of s) h.0 in
    omega (arith, less, ltb-false 4095 (m * units_of s) short)
few_units Any s n short h = absurd cc

-- the parts of what a descriptor says
low_part : (name bits k : ℕ) → name < 65536 → bits < 65536 → long_words name bits k % 2 ^ 32 ≡ long_words name bits 0
low_part name bits k h j = omega arith

high_part : (name bits k : ℕ) → name < 65536 → bits < 65536 → long_words name bits k / 2 ^ 32 ≡ k
high_part name bits k h j = omega arith

unmarked : (name bits k : ℕ) → name < 256 → bits < 256 → k ≤ 4095 → short_word name bits k / 2 ^ 28 ≡ 1
unmarked name bits k h j few = omega arith

widened_short : (name bits k : ℕ) → name < 256 → bits < 256 → k ≤ 4095 → widened (short_word name bits k) ≡ long_words name bits k
widened_short name bits k h j few =
    let one : short_word name bits k % 256 ≡ name = omega arith in
    let two : short_word name bits k / 256 % 256 ≡ bits = omega arith in
    let three : short_word name bits k / 65536 % 4096 ≡ k = omega arith in
    rw (one, two, three) refl

right_of : (c : Count) (s : Scalar) (n : ℕ) → Allows c n → is_right c s (long_words (unit_name s) (unit_bits s) (n * units_of s)) ≡ true
right_of c s n h =
    let small : unit_name s < 65536 = omega (arith, name_small s) in
    let few : unit_bits s < 65536 = omega (arith, bits_small s) in
    let low = low_part (unit_name s) (unit_bits s) (n * units_of s) small few in
    let high = high_part (unit_name s) (unit_bits s) (n * units_of s) small few in
    let d : ℕ = long_words (unit_name s) (unit_bits s) (n * units_of s) in
    let whole : is_whole s (d / 2 ^ 32) ≡ true = rw high (whole_of s n) in
    let fixed : is_fixed c s (d / 2 ^ 32) ≡ true = rw high (fixed_of c s n h) in
    and_from (nat_eq (d % 2 ^ 32) (long_words (unit_name s) (unit_bits s) 0)) (is_whole s (d / 2 ^ 32) && is_fixed c s (d / 2 ^ 32))
    (eq-eqb _ _ low) (and_from (is_whole s (d / 2 ^ 32)) (is_fixed c s (d / 2 ^ 32)) whole fixed)

many_of : (s : Scalar) (n : ℕ) → elements_in s (long_words (unit_name s) (unit_bits s) (n * units_of s) / 2 ^ 32) ≡ n
many_of s n =
    let high = high_part (unit_name s) (unit_bits s) (n * units_of s) (omega (arith, name_small s)) (omega (arith, bits_small s)) in
    rw high (elements_of s n)

pub no_gap : (p : ℕ) → 0 ≡ gap p 1
no_gap p = omega arith

form_long : (c : Count) (s : Scalar) (p d : ℕ) → is_long c s ≡ true → d < 2 ^ 64
    → FormSpells c s p (le 4 long_mark ++ le 8 d) (long_mark, d)
unfolding FirstSpells RestSpells WordSpells
form_long c s p d long lt =
    (le 4 long_mark, le 8 d, refl, (([], no_gap p, refl, omega arith), takes_long c s long), ([], no_gap (p + 4), refl, lt))

form_short : (c : Count) (s : Scalar) (p m d : ℕ) → is_long c s ≡ false → m / 2 ^ 28 ≡ 1 → m < 2 ^ 32 → widened m ≡ d
    → FormSpells c s p (le 4 m) (m, d)
unfolding FirstSpells RestSpells WordSpells
form_short c s p m d short one lt is =
    let plain : is_marked m ≡ false = rw one refl in
    let form : has_form c s m ≡ true = rw (plain, one) (takes_short c s short) in
    (le 4 m, [], sym (append-nil (le 4 m)), (([], no_gap p, refl, lt), form), rw plain (refl, is))

pub described_sent : (c : Count) (s : Scalar) (p n : ℕ) → Allows c n → n < 268435456 → DescribedSpells c s p (described_octets c s n) n
unfolding DescribedSpells described_octets
described_sent c s p n h few = sent_as (is_long c s) refl where
  units : n * units_of s ≤ n * 2
  units = mul-le-mul_left n (units_few s)

  sent_as : (b : Bool) → is_long c s ≡ b
      → ManySpell c s p (cond b (le 4 long_mark ++ le 8 (long_words (unit_name s) (unit_bits s) (n * units_of s)))
      (le 4 (short_word (unit_name s) (unit_bits s) (n * units_of s)))) n × (allowed c n ≡ true)
  sent_as true long =
      let d = long_words (unit_name s) (unit_bits s) (n * units_of s) in (
        ((long_mark, d), many_of s n, form_long c s p d long (omega (arith, units, few, name_small s, bits_small s)), right_of c s n h),
        is_allowed c n h,
      )
  sent_as false short =
      let k = few_units c s n short h in
      let m = short_word (unit_name s) (unit_bits s) (n * units_of s) in
      let d = long_words (unit_name s) (unit_bits s) (n * units_of s) in (
        (
          (m, d),
          many_of s n,
          form_short c s p m d short (unmarked _ _ _ (name_small s) (bits_small s) k)
              (omega (arith, k, name_small s, bits_small s)) (widened_short _ _ _ (name_small s) (bits_small s) k),
          right_of c s n h,
        ),
        is_allowed c n h,
      )

pub described_most : (c : Count) (s : Scalar) (n : ℕ) → length (described_octets c s n) ≤ 12
unfolding described_octets
described_most c s n = either (is_long c s) where
  either : (b : Bool)
      → length (cond b (le 4 long_mark ++ le 8 (long_words (unit_name s) (unit_bits s) (n * units_of s)))
      (le 4 (short_word (unit_name s) (unit_bits s) (n * units_of s)))) ≤ 12
  either true = omega arith
  either false = omega arith
