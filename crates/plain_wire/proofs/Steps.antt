-- Octets are appended one after the other.
use Rattle.std.proofs.Common.{◌≡◌, ℕ, ◌+◌, ◌-◌, ◌%◌, ◌<◌, ◌≤◌, ℤ, pos, negsuc, List, [], ◌∷◌, ◌++◌, length, refl, sym, ap, ◌∙◌, ◌⊎◌, inl, inr, append_assoc, length-append, arith, add-one, map, drop, replicate, get_or, zero, suc, Bool, true, false, Result, Ok, Err, Option, Some, None}
use Rattle.std.specs.Result.{IsErr}
use Rattle.kit_base.specs.declared.errors.NoMemory.{NoMemory}
use Rattle.plain_wire.specs.Sending.{Appends, IsPrefixed, aligned}
use Rattle.std.specs.List.{list_all, slice_get}
use Rattle.std.proofs.lemmas.List.{append-nil, drop_all}
use Rattle.std.proofs.Math.Seq.{drop-cons}
use Rattle.std.proofs.lemmas.Int.{to_z-of_z}
use Rattle.std.specs.Int.{Width}
use Rattle.mint.specs.declared.kind.Kind.{Kind}
use Rattle.mint.specs.declared.kind.Kind.TheVariants as kind
use Rattle.mint.specs.declared.kind.Count.{Count}
use Rattle.mint.specs.declared.kind.Count.TheVariants.{Exactly}
use Rattle.mint.specs.Types.{Scalar, number, label, Array, text, row_of}
use Rattle.mint.specs.Typed.{IsScalar}
use Rattle.mint.proofs.Places.{number_missing}
use Rattle.wire_def.specs.declared.encoding.Encoding.{Encoding}
use Rattle.wire_def.specs.declared.encoding.Encoding.TheVariants.{Xdr, CdrBig, CdrLittle, Mach}
use Rattle.wire_def.specs.Scalars.{is_signed, scalar_octets, number_octets, residue, width_of, alignment_of, gap}
use Rattle.wire_def.specs.Lone.{lone_octets}
use Rattle.wire_def.proofs.ScalarGrammar.{left_true, right_true, FitsIn, fits_in, half_half}
use Rattle.wire_def.specs.Arrays.{natural, counted, count_octets, head_octets, count_of, kind_of}
use Rattle.wire_def.specs.Described.{described_octets}
use Rattle.plain_wire.specs.Rows.{bare_octets, numbers_octets}
use Rattle.plain_wire.specs.Widths.{FitsWidth}

-- a scalar is a gap and a number
pub scalar_aligned : (e : Encoding) (s : Scalar) (p : ℕ) (n : ℤ) → scalar_octets e s p n ≡ aligned e s p n
unfolding scalar_octets
scalar_aligned e s p n = refl

fitting : (signed : Bool) (w : Width) (n : ℤ) → FitsIn signed w n → FitsWidth w n
unfolding FitsIn
fitting true w (pos n) h = omega (arith, half_half w)
fitting true w (negsuc n) h = h
fitting false w (pos n) h = h
fitting false w (negsuc n) h = absurd h

pub fits_width : (e : Encoding) (s : Scalar) (n : ℤ) → IsScalar s n → FitsWidth (width_of e s) n
fits_width e s n h = fitting (is_signed s) (width_of e s) n (fits_in e s n h)

pub ruleset scalars = (to_z-of_z, scalar_aligned, fits_width)

-- a number that travels by itself is its scalar, where it has no descriptor
pub lone_scalar : (e : Encoding) (s : Scalar) (p : ℕ) (n : ℤ) → (e ≡ Mach → ⊥) → lone_octets e s p n ≡ scalar_octets e s p n
lone_scalar Xdr s p n h = refl
lone_scalar CdrBig s p n h = refl
lone_scalar CdrLittle s p n h = refl
lone_scalar Mach s p n h = absurd (h refl)

-- a label is an integer of 32 bits
pub label_octets : (e : Encoding) (ls : List ℤ) (p : ℕ) (n : ℤ) → lone_octets e (label ls) p n ≡ lone_octets e (number kind.I32) p n
unfolding scalar_octets
label_octets Xdr ls p n = refl
label_octets CdrBig ls p n = refl
label_octets CdrLittle ls p n = refl
label_octets Mach ls p n = refl

pub label_number : (ls : List ℤ) (n : ℤ) → IsScalar (label ls) n → IsScalar (number kind.I32) n
label_number ls n h = left_true _ _ h

pub ruleset lones = (to_z-of_z, lone_scalar, label_octets, label_number)

pub count_exactly : (e : Encoding) (m p n : ℕ) → count_octets e (Exactly m) p n ≡ []
unfolding count_octets
count_exactly e m p n = refl

pub count_other : (e : Encoding) (c : Count) (p n : ℕ) → ((m : ℕ) → c ≡ Exactly m → ⊥)
    → count_octets e c p n ≡ lone_octets e counted p (pos n)
unfolding count_octets
count_other e (Exactly m) p n other = absurd (other m refl)
count_other e _ p n other = refl

-- a length of 2 ^ 32 is sent as 0
pub ended_wraps : (e : Encoding) (p n : ℕ) → n < 4294967296 → 4294967295 ≤ n
    → scalar_octets e counted p (pos 0) ≡ scalar_octets e counted p (pos (suc n))
unfolding scalar_octets
ended_wraps e p n few many =
    let is : n ≡ 4294967295 = omega arith in
    rw is (wraps e) where
      wraps : (e : Encoding) → replicate (gap p (alignment_of e counted)) 0
          ++ number_octets e (width_of e counted) (residue (width_of e counted) (pos 0))
          ≡ replicate (gap p (alignment_of e counted)) 0
          ++ number_octets e (width_of e counted) (residue (width_of e counted) (pos (suc 4294967295)))
      wraps Xdr = refl
      wraps CdrBig = refl
      wraps CdrLittle = refl
      wraps Mach = refl

pub ruleset counts = (to_z-of_z, count_exactly, count_other, append-nil, ended_wraps)

pub cdr_text : (e : Encoding) (c : Count) (p n : ℕ) → (e ≡ CdrBig) ⊎ (e ≡ CdrLittle)
    → head_octets e (text c) p n ≡ scalar_octets e counted p (pos (suc n))
unfolding head_octets
cdr_text e c p n (inl is) = rw is refl
cdr_text e c p n (inr is) = rw is refl

pub other_text : (e : Encoding) (c : Count) (p n : ℕ) → (e ≡ CdrBig → ⊥) → (e ≡ CdrLittle → ⊥) → (e ≡ Mach → ⊥)
    → head_octets e (text c) p n ≡ count_octets e c p n
unfolding head_octets
other_text Xdr c p n a b d = refl
other_text CdrBig c p n a b d = absurd (a refl)
other_text CdrLittle c p n a b d = absurd (b refl)
other_text Mach c p n a b d = absurd (d refl)

pub mach_head : (e : Encoding) (a : Array) (p n : ℕ) → e ≡ Mach → head_octets e a p n ≡ described_octets (count_of a) (number (kind_of a)) n
unfolding head_octets
mach_head e a p n is = rw is refl

pub row_head : (e : Encoding) (k : Kind) (c : Count) (p n : ℕ) → (e ≡ Mach → ⊥) → head_octets e (row_of k c) p n ≡ count_octets e c p n
unfolding head_octets
row_head Xdr k c p n h = refl
row_head CdrBig k c p n h = refl
row_head CdrLittle k c p n h = refl
row_head Mach k c p n h = absurd (h refl)

pub ruleset heads = (to_z-of_z, cdr_text, other_text, mach_head, row_head)

-- what is left over is at least one more
pub octets_left : (ns : List ℤ) (i : ℕ) → i < length ns
    → map natural (drop i ns) ≡ natural (get_or ns i (pos 0)) ∷ map natural (drop (i + 1) ns)
octets_left ns i h = rw (add-one, drop-cons ns i (pos 0)) refl

pub octets_none : (ns : List ℤ) (i : ℕ) → length ns ≤ i → map natural (drop i ns) ≡ []
octets_none ns i h = rw (drop_all i ns h) refl

pub numbers_left : (e : Encoding) (k : Kind) (ns : List ℤ) (i : ℕ) → i < length ns
    → numbers_octets e k (drop i ns) ≡ bare_octets e k (get_or ns i (pos 0)) ++ numbers_octets e k (drop (i + 1) ns)
numbers_left e k ns i h = rw (add-one, drop-cons ns i (pos 0)) refl

pub numbers_none : (e : Encoding) (k : Kind) (ns : List ℤ) (i : ℕ) → length ns ≤ i → numbers_octets e k (drop i ns) ≡ []
numbers_none e k ns i h = rw (drop_all i ns h) refl

-- each of the numbers passes a test that all pass
pub passes_at : (test : ℤ → Bool) (ns : List ℤ) (i : ℕ) → i < length ns → list_all test ns ≡ true → test (get_or ns i (pos 0)) ≡ true
passes_at test [] i h all = absurd (omega arith)
passes_at test (n ∷ ns) zero h all = left_true (test n) (list_all test ns) all
passes_at test (n ∷ ns) (suc i) h all = passes_at test ns i (omega arith) (right_true (test n) (list_all test ns) all)

-- a call in the middle failed
pub breaks : (r : Result ℕ NoMemory) (d : NoMemory) (old mid new o x more : List ℕ) (p q : ℕ) → IsErr r
    → old ++ o ≡ mid ++ (x ++ more) → length old ≤ length mid → Appends mid new q x (Err d)
    → Appends old new p o r
breaks (Ok n) d old mid new o x more p q failed whole grown (rest, is, long) = absurd cc
breaks (Err d') d old mid new o x more p q failed whole grown (rest, is, long) =
    (rest ++ more, whole ∙ sym (append_assoc mid x more) ∙ ap (λ z. z ++ more) is ∙ append_assoc new rest more, omega arith)

-- two calls, one after the other
pub both_appended : (r : Result ℕ NoMemory) (old mid new o x : List ℕ) (p q : ℕ) → mid ≡ old ++ o
    → q + length old ≡ p + length mid → Appends mid new q x r
    → Appends old new p (o ++ x) r
both_appended (Ok n) old mid new o x p q first placed (second, after) =
    (second ∙ ap (λ z. z ++ x) first ∙ append_assoc old o x, omega arith)
both_appended (Err d) old mid new o x p q first placed (rest, is, long) =
    (rest, sym (append_assoc old o x) ∙ ap (λ z. z ++ x) (sym first) ∙ is, omega (arith, ap length first, length-append old o))

-- the number at a place that there is
pub number_got : (ns : List ℤ) (i : ℕ) (n : ℤ) → slice_get ns i ≡ Some n → get_or ns i (pos 0) ≡ n
number_got [] i n h = absurd cc
number_got (m ∷ ns) zero n h = cc
number_got (m ∷ ns) (suc i) n h = number_got ns i n h

pub ruleset equations = (
  number_got,
  number_missing,
  to_z-of_z,
  octets_left,
  octets_none,
  numbers_left,
  numbers_none,
  passes_at,
  append_assoc,
  length-append,
  append-nil,
)

-- what was appended before memory ran out is a prefix
pub appended : (old new o rest : List ℕ) → old ++ o ≡ new ++ rest → length old ≤ length new → IsPrefixed old new o
appended [] new o rest is long = (new, rest, is, refl)
appended (x ∷ old) [] o rest is long = absurd (omega arith)
appended (x ∷ old) (y ∷ new) o rest is long =
    let more : old ++ o ≡ new ++ rest = cc in
    let same : x ≡ y = cc in
    let after = appended old new o rest more (omega arith) in
    (after.0, after.1, after.2, ap (λ z. y ∷ z) after.3 ∙ ap (λ z. z ∷ (old ++ after.0)) (sym same))

-- one more was appended
pub goes_on : (old all mid new left x : List ℕ) (more : ℕ → List ℕ) (at q : ℕ) → old ++ all ≡ mid ++ left
    → left ≡ x ++ more (at + length x) → new ≡ mid ++ x → q + length mid ≡ at + length new
    → old ++ all ≡ new ++ more q
goes_on old all mid new left x more at q reported is new_is placed =
    let past : q ≡ at + length x = omega (arith, placed, ap length new_is, length-append mid x) in
    rw (past, new_is) (reported ∙ ap (λ z. mid ++ z) is ∙ sym (append_assoc mid x (more (at + length x))))
