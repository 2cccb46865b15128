-- What is sent has a length that the span of its type allows, by induction on the type.
use Rattle.std.proofs.Common.{◌≡◌, ℕ, zero, suc, ◌+◌, ◌*◌, ◌%◌, ◌≤◌, ℤ, pos, List, [], ◌∷◌, ◌++◌, length, Bool, true, false, cond, refl, sym, ap, ◌∙◌, int_eq, arith, length-append, zero-add, add-zero, suc-mul}
use Rattle.std.proofs.Math.Nat.{zero-mul, mul-le-mul_right}
use Rattle.std.specs.Prelude.{MatchBool}
use Rattle.std.specs.Int.{Width, w8, w16, w32, w64, byte_len}
use Rattle.std.proofs.lemmas.List.{length-replicate}
use Rattle.mint.specs.declared.kind.Kind.TheVariants as kind
use Rattle.mint.specs.declared.kind.Count.{Count}
use Rattle.mint.specs.declared.kind.Count.TheVariants.{Exactly, AtMost, Any}
use Rattle.mint.specs.declared.kind.Kind.{Kind}
use Rattle.mint.specs.Kinds.{Allows}
use Rattle.mint.specs.Values.{Val, void, num, row, group, items, arm, absent, present, Vals, no_more, val, count}
use Rattle.mint.specs.Types.{Scalar, number, Array, text, row_of, Ty, void_type, scalar_type, array_type, group_type, items_type, choice_type, maybe_type, Tys, no_fields, field, Arms, no_other, others, arm_type}
use Rattle.mint.specs.Typed.{IsArray, IsOf, AreOf, IsOfArm, Each}
use Rattle.wire_def.specs.declared.encoding.Encoding.{Encoding}
use Rattle.wire_def.specs.declared.encoding.Encoding.TheVariants.{Xdr, CdrBig, CdrLittle, Mach}
use Rattle.wire_def.specs.Scalars.{gap, own_width, width_of, alignment_of, scalar_octets}
use Rattle.kit_base.specs.Bytes.{le}
use Rattle.wire_def.specs.Lone.{IsPlain, filling, unit_name, unit_bits, units_of, short_word, lone_octets}
use Rattle.wire_def.specs.Described.{is_long, long_mark, long_words, described_octets}
use Rattle.wire_def.specs.Arrays.{counted, count_of, kind_of, is_octets, trailing, count_octets, head_octets, element_octets, elements_octets, array_octets}
use Rattle.wire_def.specs.Send.{flag, send_each, send, send_fields, send_arm}
use Rattle.wire_def.proofs.Words.{IsOwn, is8, is16, is32, is64, own_of}
use Rattle.wire_def.proofs.Short.{scalar_long}
use Rattle.storage_class.specs.declared.span.Span.{Span}
use Rattle.storage_class.specs.declared.span.Span.TheVariants.{Fixed, Bounded, Unbounded}
use Rattle.storage_class.specs.Classing.{from_each, length_at, run, greatest, exactly, top, loose, after, either, times, times_top, HasLength}
use Rattle.storage_class.specs.Spans.{lone_length, scalar_span, element_length, elements_length, first_gap, wide_gap, described_length, array_length, array_most, array_counted, text_counted, items_span, span, are_fixed, chain, sum_of, arms_span}
use Rattle.storage_class.proofs.Within.{exactly_within, at_most_within, loose_within, nothing_within, both_within, after_within, joined_within, first_within, second_within}
use Rattle.storage_class.proofs.Residues.{from_each_at, run_at, length_most}

-- ---- scalars

gap_turns : (w : Width) → IsOwn w → (p : ℕ) → gap (p % 8) (byte_len w) ≡ gap p (byte_len w)
gap_turns _ is8 p = omega arith
gap_turns _ is16 p = omega arith
gap_turns _ is32 p = omega arith
gap_turns _ is64 p = omega arith

no_gap : (p : ℕ) → gap p 1 ≡ 0
no_gap p = omega arith

lone_turns : (e : Encoding) (s : Scalar) (p : ℕ) → lone_length e s (p % 8) ≡ lone_length e s p
lone_turns Xdr s p = omega (arith, no_gap (p % 8), no_gap p)
lone_turns CdrBig s p = ap (λ n. n + byte_len (width_of CdrBig s)) (gap_turns (own_width s) (own_of CdrBig s) p)
lone_turns CdrLittle s p = ap (λ n. n + byte_len (width_of CdrLittle s)) (gap_turns (own_width s) (own_of CdrLittle s) p)
lone_turns Mach s p = refl

lone_counts : (e : Encoding) (s : Scalar) (p : ℕ) (n : ℤ) → length (lone_octets e s p n) ≡ lone_length e s p
lone_counts Xdr s p n = scalar_long Xdr s p n
lone_counts CdrBig s p n = scalar_long CdrBig s p n
lone_counts CdrLittle s p n = scalar_long CdrLittle s p n
lone_counts Mach s p n =
    let inside = scalar_long Mach s (p + 4) n in
    simp (length-append, length-replicate) (omega (arith, inside, no_gap (p + 4)))

lone_long : (e : Encoding) (s : Scalar) (p : ℕ) (n : ℤ) → HasLength (scalar_span e s) p (length (lone_octets e s p n))
lone_long e s p n = lone_counts e s p n ∙ sym (from_each_at (lone_length e s) (lone_turns e s) p)

-- ---- arrays

abbrev first : ℕ → ℕ → ℕ → ℕ
first w p zero = 0
first w p (suc n) = gap p w

-- elements whose octets are as many as what they are aligned to
module _ (w : Width) (own : IsOwn w) (one : ℕ → ℤ → List ℕ)
    (each : (p : ℕ) (n : ℤ) → length (one p n) ≡ gap p (byte_len w) + byte_len w) where
  aligned : (v : Width) → IsOwn v → (p : ℕ) → gap (p + (gap p (byte_len v) + byte_len v)) (byte_len v) ≡ 0
  aligned _ is8 p = omega arith
  aligned _ is16 p = omega arith
  aligned _ is32 p = omega arith
  aligned _ is64 p = omega arith

  more_aligned : (n p : ℕ) → gap p (byte_len w) ≡ 0 → first (byte_len w) p n ≡ 0
  more_aligned zero p h = refl
  more_aligned (suc n) p h = h

  elements_aligned : (p : ℕ) (ns : List ℤ) → length (elements_octets one p ns) ≡ first (byte_len w) p (length ns) + length ns * byte_len w
  unfolding elements_octets
  elements_aligned p [] = omega (arith, zero-mul (byte_len w))
  elements_aligned p (n ∷ ns) =
      let here = each p n in
      let rest = elements_aligned (p + length (one p n)) ns in
      let none = more_aligned (length ns) (p + length (one p n)) (rw (← here) at (aligned w own p)) in
      rw (length-append, suc-mul) (omega (arith, here, rest, none))

-- the width of an array's elements where they are aligned
abbrev own_element : Array → Width
own_element (text c) = w8
own_element (row_of k c) = own_width (number k)

element_own : (a : Array) → IsOwn (own_element a)
element_own (text c) = is8
element_own (row_of k c) = own_of CdrBig (number k)

octet_gap : (p : ℕ) → 1 ≡ gap p 1 + 1
octet_gap p = omega arith

-- one of CDR's two encodings
abbrev IsCdr : Encoding → Type 0
IsCdr CdrBig = Unit {0}
IsCdr CdrLittle = Unit {0}
IsCdr _ = ⊥

cdr_element : (e : Encoding) → IsCdr e → (a : Array) (p : ℕ) (n : ℤ)
    → length (element_octets e a p n) ≡ gap p (byte_len (own_element a)) + byte_len (own_element a)
unfolding element_octets
cdr_element Xdr cdr a p n = absurd cdr
cdr_element Mach cdr a p n = absurd cdr
cdr_element e cdr (text c) p n = octet_gap p
cdr_element e cdr (row_of kind.Octet c) p n = octet_gap p
cdr_element e cdr (row_of k c) p n = scalar_long e (number k) p n

-- the elements of an array from a position, and what comes after them
abbrev body_length : Encoding → Array → ℕ → ℕ → ℕ
body_length Xdr a n p = elements_length Xdr a n
body_length Mach a n p = elements_length Mach a n
body_length e a n p = first_gap a p n + elements_length e a n

cdr_lengths : (e : Encoding) → IsCdr e → (a : Array) → byte_len (own_element a) ≡ element_length e a
cdr_lengths Xdr cdr a = absurd cdr
cdr_lengths Mach cdr a = absurd cdr
cdr_lengths e cdr (row_of kind.Octet c) = refl
cdr_lengths e cdr _ = refl

first_gaps : (a : Array) (p n : ℕ) → first (byte_len (own_element a)) p n ≡ first_gap a p n
first_gaps a p zero = refl
first_gaps a p (suc n) = ap (λ w. gap p w) (cdr_lengths CdrBig tt a)

xdr_element : (a : Array) (p : ℕ) (n : ℤ) → length (element_octets Xdr a p n) ≡ element_length Xdr a
unfolding element_octets
xdr_element (text c) p n = refl
xdr_element (row_of kind.Octet c) p n = refl
xdr_element (row_of k c) p n = let long = scalar_long Xdr (number k) p n in omega (arith, long, no_gap p)

elements_long : (k : ℕ) (one : ℕ → ℤ → List ℕ) → ((p : ℕ) (n : ℤ) → length (one p n) ≡ k) → (p : ℕ) (ns : List ℤ)
    → length (elements_octets one p ns) ≡ length ns * k
unfolding elements_octets
elements_long k one each p [] = sym (zero-mul k)
elements_long k one each p (n ∷ ns) =
    let here = each p n in
    let rest = elements_long k one each (p + length (one p n)) ns in
    rw (length-append, suc-mul) (omega arith)

body_long : (e : Encoding) → IsPlain e → (a : Array) (p : ℕ) (ns : List ℤ)
    → length (elements_octets (element_octets e a) p ns) + trailing e a (length ns) ≡ body_length e a (length ns) p
body_long Xdr h a p ns =
    ap (λ z. z + trailing Xdr a (length ns)) (elements_long (element_length Xdr a) (element_octets Xdr a) (xdr_element a) p ns)
body_long Mach h a p ns = absurd h
body_long e h a p ns =
    let long = elements_aligned (own_element a) (element_own a) (element_octets e a) (cdr_element e tt a) p ns in
    let same : length ns * byte_len (own_element a) ≡ length ns * element_length e a = ap (λ z. length ns * z) (cdr_lengths e tt a) in
    omega (arith, long, same, first_gaps a p (length ns))

exact_length : (f : ℕ → ℕ) → ((p : ℕ) → f (p % 8) ≡ f p) → (p l : ℕ) → l ≡ f p → HasLength (exactly (from_each f)) p l
exact_length f turns p l h = exactly_within (from_each f) p l (h ∙ sym (from_each_at f turns p))

-- ---- rows over CDR

row_gap : (k : Kind) (c : Count) (p n : ℕ) → first_gap (row_of k c) (p % 8) n ≡ first_gap (row_of k c) p n
row_gap k c p zero = refl
row_gap k c p (suc n) =
    let same = cdr_lengths CdrBig tt (row_of k c) in
    rw (← same) (gap_turns (own_element (row_of k c)) (element_own (row_of k c)) p)

first_most : (a : Array) (q n : ℕ) → q % 4 ≡ 0 → first_gap a q n ≤ wide_gap a
first_most a q zero h = omega arith
first_most (text c) q (suc n) h = omega arith
first_most (row_of kind.Octet c) q (suc n) h = omega arith
first_most (row_of kind.I8 c) q (suc n) h = omega arith
first_most (row_of kind.U8 c) q (suc n) h = omega arith
first_most (row_of kind.Char c) q (suc n) h = omega arith
first_most (row_of kind.I16 c) q (suc n) h = omega (arith, h)
first_most (row_of kind.U16 c) q (suc n) h = omega (arith, h)
first_most (row_of kind.I32 c) q (suc n) h = omega (arith, h)
first_most (row_of kind.U32 c) q (suc n) h = omega (arith, h)
first_most (row_of kind.I64 c) q (suc n) h = omega (arith, h)
first_most (row_of kind.U64 c) q (suc n) h = omega (arith, h)
first_most (row_of kind.Bool c) q (suc n) h = omega arith

-- after a count elements begin at a multiple of 4
after_count : (p : ℕ) → (p + (gap p 4 + 4)) % 4 ≡ 0
after_count p = omega arith

count_few : (p : ℕ) → gap p 4 + 4 ≤ 7
count_few p = omega arith

grown : (a : Array) (e : Encoding) (n m : ℕ) → IsPlain e → n ≤ m → n * element_length e a ≤ m * element_length e a
grown a e n m h le = mul-le-mul_right (element_length e a) le

text_fits : (e : Encoding) → IsCdr e → (c : Count) (p n l : ℕ) → Allows c n → l ≤ 8 + n → HasLength (text_counted e c) p l
text_fits Xdr cdr c p n l ok few = absurd cdr
text_fits Mach cdr c p n l ok few = absurd cdr
text_fits e cdr (Exactly m) p n l ok few = at_most_within (array_most e (text (Exactly m)) m) p l (omega (arith, ok, few))
text_fits e cdr (AtMost m) p n l ok few = at_most_within (array_most e (text (AtMost m)) m) p l (omega (arith, ok.0, few))
text_fits e cdr Any p n l ok few = tt

cdr_row : (e : Encoding) → IsCdr e → (k : Kind) (c : Count) (p : ℕ) (ns : List ℤ) → Allows c (length ns)
    → HasLength (array_counted e (row_of k c) c) p (length (array_octets e (row_of k c) p ns))
unfolding array_octets head_octets count_octets
cdr_row Xdr cdr k c p ns h = absurd cdr
cdr_row Mach cdr k c p ns h = absurd cdr
cdr_row e cdr k (Exactly m) p ns h =
    let body = body_long e tt (row_of k (Exactly m)) p ns in
    let turns = λ (q : ℕ). ap (λ z. z + elements_length e (row_of k (Exactly m)) m) (row_gap k (Exactly m) q m) in
    let whole = body ∙ ap (λ z. body_length e (row_of k (Exactly m)) z p) h in
    exact_length (array_length e (row_of k (Exactly m)) m) turns p _
    (simp (length-append, length-replicate, add-zero) (omega (arith, whole)))
cdr_row e cdr k (AtMost m) p ns h =
    let a = row_of k (AtMost m) in
    let head = scalar_octets e counted p (pos (length ns)) in
    let long : length head ≡ gap p 4 + 4 = scalar_long e counted p (pos (length ns)) in
    let body = body_long e tt a (p + length head) ns in
    let front = first_most a (p + length head) (length ns) (rw long (after_count p)) in
    let less = grown a e (length ns) m tt h.0 in
    at_most_within (array_most e a m) p _
    (simp (length-append, length-replicate) (omega (arith, long, body, front, less, count_few p)))
cdr_row e cdr k Any p ns h = tt

cdr_text : (e : Encoding) → IsCdr e → (c : Count) (p : ℕ) (ns : List ℤ) → Allows c (length ns)
    → HasLength (text_counted e c) p (length (array_octets e (text c) p ns))
unfolding array_octets head_octets
cdr_text Xdr cdr c p ns h = absurd cdr
cdr_text Mach cdr c p ns h = absurd cdr
cdr_text e cdr c p ns h =
    let head = scalar_octets e counted p (pos (suc (length ns))) in
    let long : length head ≡ gap p 4 + 4 = scalar_long e counted p (pos (suc (length ns))) in
    let body = body_long e tt (text c) (p + length head) ns in
    let front = first_most (text c) (p + length head) (length ns) (rw long (after_count p)) in
    let all : length (array_octets e (text c) p ns) ≤ 8 + length ns =
    simp (length-append, length-replicate) (omega (arith, long, body, front, count_few p)) in
    text_fits e tt c p (length ns) _ h all

-- ---- over XDR

-- more elements have no fewer octets after them
padding_grows : (b : Bool) (k n m : ℕ) → n ≤ m → n * cond b 1 k + cond b (gap n 4) 0 ≤ m * cond b 1 k + cond b (gap m 4) 0
padding_grows true k n m h = omega arith
padding_grows false k n m h = omega (arith, mul-le-mul_right k h)

xdr_array : (a : Array) (c : Count) (p : ℕ) (ns : List ℤ) → c ≡ count_of a → Allows c (length ns)
    → HasLength (array_counted Xdr a c) p (length (array_octets Xdr a p ns))
unfolding array_octets head_octets count_octets
xdr_array a (Exactly m) p ns is h =
    let body = body_long Xdr tt a (p + length (count_octets Xdr (Exactly m) p (length ns))) ns in
    let whole = body ∙ ap (λ z. elements_length Xdr a z) h in
    let none : length (count_octets Xdr (Exactly m) p (length ns)) ≡ 0 = refl in
    rw (← is) (exact_length (array_length Xdr a m) (λ q. refl) p _ (simp (length-append, length-replicate) (omega (arith, whole, none))))
xdr_array a (AtMost m) p ns is h =
    let head = scalar_octets Xdr counted p (pos (length ns)) in
    let long : length head ≡ gap p 1 + 4 = scalar_long Xdr counted p (pos (length ns)) in
    let body = body_long Xdr tt a (p + length head) ns in
    let less = padding_grows (is_octets a) (byte_len (width_of Xdr (number (Rattle.wire_def.specs.Arrays.kind_of a)))) (length ns) m h.0 in
    rw (← is) (at_most_within (array_most Xdr a m) p _ (simp (length-append, length-replicate) (omega (arith, long, no_gap p, body, less))))
xdr_array a Any p ns is h = tt

-- ---- Mach messages

mach_element : (a : Array) (p : ℕ) (n : ℤ) → length (element_octets Mach a p n) ≡ element_length Mach a
unfolding element_octets
mach_element (text c) p n = refl
mach_element (row_of kind.Octet c) p n = refl
mach_element (row_of k c) p n = let long = scalar_long Mach (number k) p n in omega (arith, long, no_gap p)

described_counts : (a : Array) (n : ℕ) → length (described_octets (count_of a) (number (kind_of a)) n) ≡ described_length a
unfolding described_octets
described_counts a n = by (is_long (count_of a) (number (kind_of a))) where
  by : (b : Bool)
      → length (cond b (le 4 long_mark
      ++ le 8 (long_words (unit_name (number (kind_of a))) (unit_bits (number (kind_of a))) (n * units_of (number (kind_of a)))))
      (le 4 (short_word (unit_name (number (kind_of a))) (unit_bits (number (kind_of a))) (n * units_of (number (kind_of a))))))
      ≡ cond b 12 4
  by true = refl
  by false = refl

mach_width : (a : Array) → element_length Mach a ≡ byte_len (width_of Mach (number (kind_of a)))
mach_width (row_of kind.Octet c) = refl
mach_width _ = refl

filled_grows : (x y : ℕ) → x ≤ y → x + gap x 4 ≤ y + gap y 4
filled_grows x y h = omega arith

mach_grows : (a : Array) (n m : ℕ) → n ≤ m → elements_length Mach a n ≤ elements_length Mach a m
mach_grows a n m h =
    let w : ℕ = byte_len (width_of Mach (number (kind_of a))) in
    rw mach_width (filled_grows (n * w) (m * w) (mul-le-mul_right w h))

mach_body : (a : Array) (p : ℕ) (ns : List ℤ)
    → length (elements_octets (element_octets Mach a) p ns) + trailing Mach a (length ns) ≡ elements_length Mach a (length ns)
mach_body a p ns =
    ap (λ z. z + trailing Mach a (length ns)) (elements_long (element_length Mach a) (element_octets Mach a) (mach_element a) p ns)

mach_array : (a : Array) (c : Count) (p : ℕ) (ns : List ℤ) → c ≡ count_of a → Allows c (length ns)
    → HasLength (array_counted Mach a c) p (length (array_octets Mach a p ns))
unfolding array_octets head_octets
mach_array a (Exactly m) p ns is h =
    let head = described_octets (count_of a) (number (kind_of a)) (length ns) in
    let body = mach_body a (p + length head) ns ∙ ap (λ z. elements_length Mach a z) h in
    exact_length (array_length Mach a m) (λ q. refl) p _
    (simp (length-append, length-replicate) (omega (arith, described_counts a (length ns), body)))
mach_array a (AtMost m) p ns is h =
    let head = described_octets (count_of a) (number (kind_of a)) (length ns) in
    let body = mach_body a (p + length head) ns in
    at_most_within (array_most Mach a m) p _
    (simp (length-append, length-replicate) (omega (arith, described_counts a (length ns), body, mach_grows a (length ns) m h.0)))
mach_array a Any p ns is h = tt

array_within : (e : Encoding) (a : Array) (p : ℕ) (ns : List ℤ) → Allows (count_of a) (length ns)
    → HasLength (span e (array_type a)) p (length (array_octets e a p ns))
array_within Xdr a p ns ok = xdr_array a (count_of a) p ns refl ok
array_within Mach a p ns ok = mach_array a (count_of a) p ns refl ok
array_within e (text c) p ns ok = cdr_text e tt c p ns ok
array_within e (row_of k c) p ns ok = cdr_row e tt k c p ns ok

-- ---- lists

count_within : (e : Encoding) (p n : ℕ) → HasLength (scalar_span e counted) p (length (lone_octets e counted p (pos n)))
count_within e p n = lone_long e counted p (pos n)

module _ (t : Ty) (one : ℕ → Val → List ℕ) where
  each_run : (f : List ℕ) → ((p : ℕ) (v : Val) → IsOf t v → length (one p v) ≡ length_at f p) → (p : ℕ) (vs : Vals) → Each (IsOf t) vs
      → length (send_each one p vs) ≡ run (count vs) f p
  unfolding run
  each_run f each p no_more h = refl
  each_run f each p (val v vs) h =
      let here = each p v h.0 in
      let rest = each_run f each (p + length (one p v)) vs h.1 in
      rw length-append (rw (← here) (ap (λ z. length (one p v) + z) rest))

  each_most : (k : ℕ) → ((p : ℕ) (v : Val) → IsOf t v → length (one p v) ≤ k) → (p : ℕ) (vs : Vals) → Each (IsOf t) vs
      → length (send_each one p vs) ≤ count vs * k
  each_most k each p no_more h = omega arith
  each_most k each p (val v vs) h =
      let here = each p v h.0 in
      let rest = each_most k each (p + length (one p v)) vs h.1 in
      rw (length-append, suc-mul) (omega arith)

  times_within : (s : Span) → ((p : ℕ) (v : Val) → IsOf t v → HasLength s p (length (one p v))) → (p : ℕ) (vs : Vals) → Each (IsOf t) vs
      → HasLength (times (count vs) s) p (length (send_each one p vs))
  times_within (Fixed f) each p vs h =
      exactly_within (from_each (run (count vs) f)) p _ (each_run f each p vs h ∙ sym (run_at (count vs) f p))
  times_within (Bounded k) each p vs h = at_most_within (count vs * k) p _ (each_most k each p vs h)
  times_within Unbounded each p vs h = tt

  times_most : (s : Span) → ((p : ℕ) (v : Val) → IsOf t v → HasLength s p (length (one p v))) → (p : ℕ) (vs : Vals) → Each (IsOf t) vs
      → (m : ℕ) → count vs ≤ m → HasLength (times_top m (top s)) p (length (send_each one p vs))
  times_most (Fixed f) each p vs h m j =
      let one_most : (q : ℕ) (v : Val) → IsOf t v → length (one q v) ≤ greatest f = λ q v ok. let most = length_most f q in
      omega (arith, each q v ok, most) in
      at_most_within (m * greatest f) p _ (omega (arith, each_most (greatest f) one_most p vs h, mul-le-mul_right (greatest f) j))
  times_most (Bounded k) each p vs h m j = at_most_within (m * k) p _ (omega (arith, each_most k each p vs h, mul-le-mul_right k j))
  times_most Unbounded each p vs h m j = tt

items_within : (e : Encoding) (c : Count) (t : Ty) (p : ℕ) (vs : Vals) → Allows c (count vs) → Each (IsOf t) vs
    → ((p : ℕ) (v : Val) → IsOf t v → HasLength (span e t) p (length (send e t p v)))
    → HasLength (items_span e c (span e t)) p
    (length (count_octets e c p (count vs)) + length (send_each (send e t) (p + length (count_octets e c p (count vs))) vs))
unfolding count_octets
items_within e (Exactly m) t p vs ok h each = rw (zero-add, add-zero, ← ok) (times_within t (send e t) (span e t) each p vs h)
items_within e (AtMost m) t p vs ok h each =
    let q : ℕ = p + length (lone_octets e counted p (pos (count vs))) in
    after_within (scalar_span e counted) (times_top m (top (span e t))) p _ _ (lone_long e counted p (pos (count vs)))
    (times_most t (send e t) (span e t) each q vs h m ok.0)
items_within e Any t p vs ok h each = tt

arm_at : (b : Bool) (P Q : Type 0) (x y : List ℕ) (s rest : Span) (p : ℕ) → (P → HasLength s p (length x))
    → (Q → HasLength rest p (length y)) → MatchBool b P Q
    → HasLength (either s rest) p (length (cond b x y))
arm_at true P Q x y s rest p f g h = first_within s rest p (length x) (f h)
arm_at false P Q x y s rest p f g h = second_within s rest p (length y) (g h)

array_typed : (a : Array) (k : Kind) (ns : List ℤ) → IsArray a k ns → Allows (count_of a) (length ns)
array_typed (text c) k ns h = h.1
array_typed (row_of k' c) k ns h = h.1

module _ (e : Encoding) where
  mutual
    unfolding send

    pub sent_within : (t : Ty) (p : ℕ) (v : Val) → IsOf t v → HasLength (span e t) p (length (send e t p v))
    sent_within void_type p void h = sym (from_each_at (λ q. 0) (λ q. refl) p)
    sent_within (scalar_type s) p (num n) h = lone_long e s p n
    sent_within (array_type a) p (row k ns) h = array_within e a p ns (array_typed a k ns h)
    sent_within (group_type ts) p (group vs) h =
        joined_within (are_fixed e ts) (chain e ts) (sum_of e ts) p _ (chain_within ts p vs h) (sum_within ts p vs h)
    sent_within (items_type c t) p (items vs) h = rw length-append (items_within e c t p vs h.0 h.1 (sent_within t))
    sent_within (choice_type s arms) p (arm n v) h =
        rw length-append (after_within (scalar_span e s) (arms_span e arms) p _ _ (lone_long e s p n)
        (arm_within arms n (p + length (lone_octets e s p n)) v h.1))
    sent_within (maybe_type t) p absent h =
        rw add-zero at (after_within (scalar_span e flag) (loose (span e t)) p (length (lone_octets e flag p (pos 0))) 0
        (lone_long e flag p (pos 0)) (nothing_within (span e t) (p + length (lone_octets e flag p (pos 0)))))
    sent_within (maybe_type t) p (present v) h =
        let q : ℕ = p + length (lone_octets e flag p (pos 1)) in
        rw length-append (after_within (scalar_span e flag) (loose (span e t)) p _ _ (lone_long e flag p (pos 1))
        (loose_within (span e t) q _ (sent_within t q v h)))
    sent_within _ p _ h = absurd h

    chain_within : (ts : Tys) (p : ℕ) (vs : Vals) → AreOf ts vs → HasLength (chain e ts) p (length (send_fields e ts p vs))
    chain_within no_fields p no_more h = sym (from_each_at (λ q. 0) (λ q. refl) p)
    chain_within (field t ts) p (val v vs) h =
        rw length-append
        (after_within (span e t) (chain e ts) p _ _ (sent_within t p v h.0) (chain_within ts (p + length (send e t p v)) vs h.1))
    chain_within _ p _ h = absurd h

    sum_within : (ts : Tys) (p : ℕ) (vs : Vals) → AreOf ts vs → HasLength (sum_of e ts) p (length (send_fields e ts p vs))
    sum_within no_fields p no_more h = omega arith
    sum_within (field t ts) p (val v vs) h =
        let q : ℕ = p + length (send e t p v) in
        rw length-append (both_within (span e t) (sum_of e ts) p q _ _ (sent_within t p v h.0) (sum_within ts q vs h.1))
    sum_within _ p _ h = absurd h

    arm_within : (arms : Arms) (n : ℤ) (p : ℕ) (v : Val) → IsOfArm arms n v
        → HasLength (arms_span e arms) p (length (send_arm e arms n p v))
    arm_within no_other n p v h = absurd h
    arm_within (others t) n p v h = loose_within (span e t) p _ (sent_within t p v h)
    arm_within (arm_type m t arms) n p v h =
        arm_at (int_eq n m) (IsOf t v) (IsOfArm arms n v) (send e t p v) (send_arm e arms n p v) (span e t) (arms_span e arms) p
        (sent_within t p v) (arm_within arms n p v) h
