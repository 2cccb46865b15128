-- What the leaves of CDR read: numbers after their alignment, texts that end, rows.
use Rattle.std.proofs.Common.{◌≡◌, ℕ, ◌+◌, ◌-◌, ◌≤◌, ℤ, List, length, take, drop, Option, refl, sym, ap, subst, ◌∙◌, arith, Bool, true, false, if◌then◌else◌}
use Rattle.std.specs.Prelude.{nat_lt}
use Rattle.std.specs.Int.{Width, byte_len}
use Rattle.std.proofs.lemmas.Bool.{lt-ltb, le-ltb, ltb-true, ltb-false}
use Rattle.std.proofs.lemmas.List.{length-drop}
use Rattle.mint.specs.Types.{Scalar}
use Rattle.mint.specs.Typed.{is_scalar}
use Rattle.wire_def.specs.declared.encoding.Encoding.{Encoding}
use Rattle.wire_def.specs.declared.encoding.Encoding.TheVariants.{CdrBig, CdrLittle}
use Rattle.wire_def.specs.declared.fault.FaultKind.{FaultKind}
use Rattle.wire_def.specs.declared.fault.FaultKind.TheVariants.{Short, BadValue}
use Rattle.wire_def.specs.Grammar.{Reading, got, stop, Reader, AreOctets, then_on, map_got}
use Rattle.wire_def.specs.Scalars.{gap, is_signed, number_of, width_of, alignment_of, octets_number, read_word, read_scalar}
use Rattle.wire_def.proofs.Words.{IsOwn, is8, is16, is32, is64, own_of}
use Rattle.cast_stub.specs.declared.recv.Get.{Get}
use Rattle.cast_stub.specs.RecvBlock.{Recv, skip_any}
use Rattle.cast_stub.specs.Draft.{Draft}
use Rattle.cast_stub.specs.Fill.{Callees, fill}
use Rattle.cast_stub.specs.Into.{passed}
use Rattle.cast_stub.specs.Runs.{Place, Run, gives, refuses, then_run}
use Rattle.cast_stub.specs.Steps.{is_width}
use Rattle.cast_stub.specs.Layouts.{scalar_width}
use Rattle.stub_lower.specs.RecvCodes.{aligned, take_code}
use Rattle.stub_lower.proofs.Words.{width_same}
use Rattle.stub_lower.proofs.Cdr.{no_gap_after, still_none}
use Rattle.stub_lower.proofs.Agreeing.{Same, agrees-wider, agrees-ends, SameEnds, ends-map, ends-then}
use Rattle.stub_lower.proofs.RecvEncoded.{tested_place, passed_place, pass_tested, octets_dropped, Reads, Takes, LonesRead, bare-scalar}

-- ---- a skip to a multiple

-- code before which octets up to a multiple are passed: it refuses where they are cut off, or goes on after them
pub record Skips (c : Callees) (a : ℕ) (b r : Recv) (d : Draft) (s : Place) : Type 0 where
  pub place : Place
  pub at : place.pos ≡ s.pos + gap s.pos a
  pub left : place.left ≡ drop (gap s.pos a) s.left
  pub is : fill c b d s ≡ (if nat_lt (length s.left) (gap s.pos a) then refuses else fill c r d place)

pub skip_run : (c : Callees) (a : ℕ) (r : Recv) (d : Draft) (s : Place) → is_width a ≡ true → Skips c a (skip_any a r) r d s
skip_run c a r d s wide = record {
  place = passed_place (gap s.pos a) s;
  at = refl;
  left = refl;
  is = ap (λ (b : Bool). then_run
      (if b
      then then_run (if nat_lt (length s.left) (gap s.pos a) then refuses else gives d (tested_place (gap s.pos a) s))
      (λ x t. passed (gap s.pos a) x t)
      else refuses) (fill c r)) wide
      ∙ decided (nat_lt (length s.left) (gap s.pos a));
} where
  decided : (b : Bool)
      → then_run (then_run (if b then refuses else gives d (tested_place (gap s.pos a) s)) (λ x t. passed (gap s.pos a) x t)) (fill c r)
      ≡ (if b then refuses else fill c r d (passed_place (gap s.pos a) s))
  decided true = refl
  decided false = ap (λ (x : Run Draft). then_run x (fill c r)) (pass_tested (gap s.pos a) d s)

pub aligned_run : (w : Width) → IsOwn w → (c : Callees) (r : Recv) (d : Draft) (s : Place)
    → Skips c (byte_len w) (aligned (byte_len w) r) r d s
aligned_run _ is8 c r d s =
    let none : gap s.pos 1 ≡ 0 = omega arith in
    let enough : nat_lt (length s.left) (gap s.pos 1) ≡ false = le-ltb (length s.left) (gap s.pos 1) (omega (arith, none)) in record {
      place = s;
      at = omega (arith, none);
      left = sym (ap (λ (k : ℕ). drop k s.left) none);
      is = sym (ap (λ (b : Bool). if b then refuses else fill c r d s) enough);
    }
aligned_run _ is16 c r d s = skip_run c 2 r d s refl
aligned_run _ is32 c r d s = skip_run c 4 r d s refl
aligned_run _ is64 c r d s = skip_run c 8 r d s refl

-- ---- a reader after its gap

lt_shift : (l g b : ℕ) → g ≤ l → nat_lt (l - g) (0 + b) ≡ nat_lt l (g + b)
lt_shift l g b h = decided (nat_lt l (g + b)) refl where
  decided : (x : Bool) → nat_lt l (g + b) ≡ x → nat_lt (l - g) (0 + b) ≡ x
  decided true e = lt-ltb (l - g) (0 + b) (omega (arith, h, ltb-true l (g + b) e))
  decided false e = le-ltb (l - g) (0 + b) (omega (arith, h, ltb-false l (g + b) e))

-- a word is cut off in its gap, or read after it
word_split : (e : Encoding) (w : Width) → IsOwn w → (p : ℕ) (o : List ℕ)
    → SameEnds (if nat_lt (length o) (gap p (byte_len w)) then stop Short p
    else read_word e (byte_len w) w (p + gap p (byte_len w)) (drop (gap p (byte_len w)) o)) (read_word e (byte_len w) w p o)
unfolding read_word
word_split e w own p o = either (nat_lt (length o) (gap p (byte_len w))) refl where
  last : (b : Bool) (at to m q r : ℕ) (l : List ℕ) → q ≡ r
      → SameEnds (if b then stop Short at else got m q l) (if b then stop Short to else got m r l)
  last true at to m q r l same = tt
  last false at to m q r l same = (refl, same, refl)

  either : (b : Bool) → nat_lt (length o) (gap p (byte_len w)) ≡ b
      → SameEnds (if b then stop Short p
      else (if nat_lt (length (drop (gap p (byte_len w)) o)) (gap (p + gap p (byte_len w)) (byte_len w) + byte_len w)
      then stop Short (p + gap p (byte_len w) + gap (p + gap p (byte_len w)) (byte_len w))
      else got (octets_number e w (take (byte_len w) (drop (gap (p + gap p (byte_len w)) (byte_len w)) (drop (gap p (byte_len w)) o))))
      (p + gap p (byte_len w) + (gap (p + gap p (byte_len w)) (byte_len w) + byte_len w))
      (drop (byte_len w) (drop (gap (p + gap p (byte_len w)) (byte_len w)) (drop (gap p (byte_len w)) o)))))
      (if nat_lt (length o) (gap p (byte_len w) + byte_len w) then stop Short (p + gap p (byte_len w))
      else got (octets_number e w (take (byte_len w) (drop (gap p (byte_len w)) o))) (p + (gap p (byte_len w) + byte_len w))
      (drop (byte_len w) (drop (gap p (byte_len w)) o)))
  either true is =
      let far : nat_lt (length o) (gap p (byte_len w) + byte_len w) ≡ true =
      lt-ltb (length o) (gap p (byte_len w) + byte_len w) (omega (arith, ltb-true (length o) (gap p (byte_len w)) is)) in
      rw far tt
  either false is =
      let near : gap p (byte_len w) ≤ length o = ltb-false (length o) (gap p (byte_len w)) is in
      let none = no_gap_after w own p in
      let short = ap (λ (l : ℕ). nat_lt l (0 + byte_len w)) (length-drop (gap p (byte_len w)) o)
      ∙ lt_shift (length o) (gap p (byte_len w)) (byte_len w) near in
      rw (none, short)
      (last (nat_lt (length o) (gap p (byte_len w) + byte_len w)) _ _ (octets_number e w (take (byte_len w) (drop (gap p (byte_len w)) o)))
      _ _ (drop (byte_len w) (drop (gap p (byte_len w)) o)) (omega arith))

module _ (e : Encoding) (aligns : (s : Scalar) → alignment_of e s ≡ byte_len (width_of e s)) where
  abbrev gap_of : Scalar → ℕ → ℕ
  gap_of t p = gap p (byte_len (width_of e t))

  pub scalar_split : (t : Scalar) (p : ℕ) (o : List ℕ)
      → SameEnds (if nat_lt (length o) (gap_of t p) then stop Short p else read_scalar e t (p + gap_of t p) (drop (gap_of t p) o))
      (read_scalar e t p o)
  unfolding read_scalar
  scalar_split t p o =
      rw (aligns t) (subst (λ (r : Reading FaultKind ℤ). SameEnds r
      (then_on (map_got (number_of (is_signed t) (width_of e t)) (read_word e (byte_len (width_of e t)) (width_of e t) p o))
      (passes (p + gap_of t p)))) (inside (nat_lt (length o) (gap_of t p)))
      (ends-then (map_got (number_of (is_signed t) (width_of e t)) (first (nat_lt (length o) (gap_of t p))))
      (map_got (number_of (is_signed t) (width_of e t)) (read_word e (byte_len (width_of e t)) (width_of e t) p o))
      (passes (p + gap_of t p + gap (p + gap_of t p) (byte_len (width_of e t)))) (passes (p + gap_of t p))
      (ends-map (number_of (is_signed t) (width_of e t)) (first (nat_lt (length o) (gap_of t p)))
      (read_word e (byte_len (width_of e t)) (width_of e t) p o) (word_split e (width_of e t) (own_of e t) p o))
      (λ (x : ℤ) (q : ℕ) (r : List ℕ). alike (is_scalar t x) x q r))) where
        passes : ℕ → ℤ → Reader FaultKind ℤ
        passes at x q r = if is_scalar t x then got x q r else stop BadValue at

        first : Bool → Reading FaultKind ℕ
        first b = if b then stop Short p else read_word e (byte_len (width_of e t)) (width_of e t) (p + gap_of t p) (drop (gap_of t p) o)

        inside : (b : Bool)
            → then_on (map_got (number_of (is_signed t) (width_of e t))
            (if b then stop Short p else read_word e (byte_len (width_of e t)) (width_of e t) (p + gap_of t p) (drop (gap_of t p) o)))
            (λ x q r. if is_scalar t x then got x q r else stop BadValue (p + gap_of t p + gap (p + gap_of t p) (byte_len (width_of e t))))
            ≡ (if b then stop Short p
            else then_on (map_got (number_of (is_signed t) (width_of e t))
            (read_word e (byte_len (width_of e t)) (width_of e t) (p + gap_of t p) (drop (gap_of t p) o)))
            (λ x q r. if is_scalar t x then got x q r else stop BadValue (p + gap_of t p + gap (p + gap_of t p) (byte_len (width_of e t)))))
        inside true = refl
        inside false = refl

        alike : (b : Bool) (x : ℤ) (q : ℕ) (r : List ℕ)
            → SameEnds (if b then got x q r else stop BadValue (p + gap_of t p + gap (p + gap_of t p) (byte_len (width_of e t))))
            (if b then got x q r else stop BadValue (p + gap_of t p))
        alike true x q r = (refl, refl, refl)
        alike false x q r = tt

  -- a scalar after its alignment
  pub aligned-scalar : (c : Callees) (t : Scalar) (g : Get) (d : Draft) (f : ℤ → Option Draft) (s : Place) → AreOctets s.left
      → Takes e t 0 g d f
      → Reads (λ (q : ℕ). gap q (scalar_width e t) ≡ 0) (fill c (aligned (scalar_width e t) (take_code (scalar_width e t) g)) d s)
      (read_scalar e t s.pos s.left) f
  aligned-scalar c t g d f s oct does = either (nat_lt (length s.left) (gap_of t s.pos)) refl where
    k : Skips c (byte_len (width_of e t)) (aligned (scalar_width e t) (take_code (scalar_width e t) g)) (take_code (scalar_width e t) g) d s
    k = subst
        (λ (n : ℕ). Skips c (byte_len (width_of e t)) (aligned n (take_code (scalar_width e t) g)) (take_code (scalar_width e t) g) d s)
        (sym (width_same e t)) (aligned_run (width_of e t) (own_of e t) c (take_code (scalar_width e t) g) d s)

    none : gap k.place.pos (byte_len (width_of e t)) ≡ 0
    none = ap (λ (p : ℕ). gap p (byte_len (width_of e t))) k.at ∙ no_gap_after (width_of e t) (own_of e t) s.pos

    whole : nat_lt (length s.left) (gap_of t s.pos) ≡ false
        → SameEnds (read_scalar e t k.place.pos k.place.left) (read_scalar e t s.pos s.left)
    whole is =
        subst (λ (p : ℕ). SameEnds (read_scalar e t p k.place.left) (read_scalar e t s.pos s.left)) (sym k.at)
        (subst (λ (o : List ℕ). SameEnds (read_scalar e t (s.pos + gap_of t s.pos) o) (read_scalar e t s.pos s.left)) (sym k.left)
        (subst
        (λ (b : Bool). SameEnds (if b then stop Short s.pos else read_scalar e t (s.pos + gap_of t s.pos) (drop (gap_of t s.pos) s.left))
        (read_scalar e t s.pos s.left)) is (scalar_split t s.pos s.left)))

    after : (q : ℕ) → q ≡ k.place.pos + scalar_width e t → gap q (scalar_width e t) ≡ 0
    after q is = ap (λ (p : ℕ). gap p (scalar_width e t)) is
        ∙ subst (λ (w : ℕ). gap (k.place.pos + w) w ≡ 0) (sym (width_same e t)) (still_none (width_of e t) (own_of e t) k.place.pos none)

    either : (b : Bool) → nat_lt (length s.left) (gap_of t s.pos) ≡ b
        → Reads (λ (q : ℕ). gap q (scalar_width e t) ≡ 0) (fill c (aligned (scalar_width e t) (take_code (scalar_width e t) g)) d s)
        (read_scalar e t s.pos s.left) f
    either true is = record {
      number = refuses;
      is = k.is ∙ ap (λ (b : Bool). if b then refuses else fill c (take_code (scalar_width e t) g) d k.place) is;
      agrees = agrees-ends (λ (q : ℕ). gap q (scalar_width e t) ≡ 0) Same refuses (stop Short s.pos) (read_scalar e t s.pos s.left)
          (subst
          (λ (b : Bool). SameEnds (if b then stop Short s.pos else read_scalar e t (s.pos + gap_of t s.pos) (drop (gap_of t s.pos) s.left))
          (read_scalar e t s.pos s.left)) is (scalar_split t s.pos s.left)) tt;
    }
    either false is =
        let inner = bare-scalar e t c g d f k.place (ap (gap k.place.pos) (aligns t) ∙ none)
        (subst AreOctets (sym k.left) (octets_dropped (gap_of t s.pos) s.left oct)) does in
        record {
          number = inner.number;
          is = k.is ∙ ap (λ (b : Bool). if b then refuses else fill c (take_code (scalar_width e t) g) d k.place) is ∙ inner.is;
          agrees = agrees-ends (λ (q : ℕ). gap q (scalar_width e t) ≡ 0) Same inner.number (read_scalar e t k.place.pos k.place.left)
              (read_scalar e t s.pos s.left) (whole is)
              (agrees-wider (λ (q : ℕ). q ≡ k.place.pos + scalar_width e t) (λ (q : ℕ). gap q (scalar_width e t) ≡ 0) Same inner.number
              (read_scalar e t k.place.pos k.place.left) inner.agrees after);
        }

pub big_scalar : LonesRead CdrBig
big_scalar c t g d f s here oct does = aligned-scalar CdrBig (λ (x : Scalar). refl) c t g d f s oct does

pub little_scalar : LonesRead CdrLittle
little_scalar c t g d f s here oct does = aligned-scalar CdrLittle (λ (x : Scalar). refl) c t g d f s oct does
