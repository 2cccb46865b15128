-- Numbers, counts and lengths as they are read.
use Rattle.std.proofs.Common.{◌≡◌, ◌⊎◌, inl, inr, ℕ, zero, suc, ◌+◌, ◌-◌, ℤ, pos, List, length, take, drop, Bool, true, false, nat_lt, cond, ltb, refl, sym, ap, arith, zero-add, add-zero, add_assoc}
use Rattle.std.specs.Prelude.{if◌then◌else◌}
use Rattle.std.specs.Int.{Width, w32, byte_len}
use Rattle.std.proofs.lemmas.Bool.{le-ltb, lt-ltb, cases_lt}
use Rattle.std.proofs.lemmas.List.{length-drop}
use Rattle.std.proofs.lemmas.Int.{to_z-of_z}
use Rattle.mint.specs.declared.kind.Kind.{Kind}
use Rattle.mint.specs.declared.kind.Kind.TheVariants as kind
use Rattle.mint.specs.declared.kind.Count.{Count}
use Rattle.mint.specs.Types.{Scalar, number, label, Array, text, row_of}
use Rattle.mint.specs.Typed.{is_scalar}
use Rattle.wire_def.specs.declared.encoding.Encoding.{Encoding}
use Rattle.wire_def.specs.declared.encoding.Encoding.TheVariants.{Xdr, CdrBig, CdrLittle, Mach}
use Rattle.wire_def.specs.declared.fault.FaultKind.{FaultKind}
use Rattle.wire_def.specs.declared.fault.FaultKind.TheVariants.{Short, BadValue}
use Rattle.wire_def.specs.Grammar.{Reading, got, stop, then_on, map_got}
use Rattle.wire_def.specs.Scalars.{gap, alignment_of, is_signed, width_of, octets_number, number_of, read_word, read_scalar, scalar_place}
use Rattle.wire_def.specs.Lone.{lone_place, read_any, read_lone}
use Rattle.wire_def.specs.Described.{read_described}
use Rattle.wire_def.specs.Arrays.{count_of, kind_of, is_some, less_one, read_count, read_ended, read_head, read_zeros, read_tail, trailing, ill_ended}
use Rattle.plain_wire.specs.Readers.{read_gap, read_here}

pub word_here : (e : Encoding) (w : Width) (p : ℕ) (o : List ℕ)
    → read_word e 1 w p o ≡ (if nat_lt (length o) (byte_len w) then stop Short p
    else got (octets_number e w (take (byte_len w) o)) (p + byte_len w) (drop (byte_len w) o))
unfolding read_word
word_here e w p o =
    let none : gap p 1 ≡ 0 = omega arith in
    rw (none, zero-add, add-zero) refl

pub ruleset words = (word_here)

-- a number after its gap
word_after : (e : Encoding) (a : ℕ) (w : Width) (p : ℕ) (o : List ℕ)
    → read_word e a w p o ≡ then_on (read_gap (gap p a) p o) (λ x q b. read_word e 1 w q b)
unfolding read_word read_gap
word_after e a w p o = elim (cases_lt (length o) (gap p a)) [
  | inl lt ↦
      let short : ltb (length o) (gap p a + byte_len w) ≡ true = lt-ltb _ _ (omega arith) in
      rw (short, lt-ltb _ _ lt) refl
  | inr le ↦
      let none : gap (p + gap p a) 1 ≡ 0 = omega arith in
      let there : ltb (length o) (gap p a) ≡ false = le-ltb _ _ le in
      let long : length (drop (gap p a) o) ≡ length o - gap p a = length-drop (gap p a) o in
      let same : ltb (length (drop (gap p a) o)) (byte_len w) ≡ ltb (length o) (gap p a + byte_len w) =
      elim (cases_lt (length o) (gap p a + byte_len w)) [
        | inl few ↦ rw (lt-ltb _ _ few) (lt-ltb _ _ (omega arith))
        | inr many ↦ rw (le-ltb _ _ many) (le-ltb _ _ (omega arith))
      ] in
      rw (there, none, zero-add, add-zero, same, add_assoc) refl
]

pub gap_got : (n p : ℕ) (o : List ℕ) (x : Unit {0}) (q : ℕ) (b : List ℕ) → read_gap n p o ≡ got x q b → q ≡ p + n
unfolding read_gap
gap_got n p o x q b e = past (ltb (length o) n) e where
  past : (t : Bool) → cond t (stop Short (p + n)) (got tt (p + n) (drop n o)) ≡ got x q b → q ≡ p + n
  past true e = absurd cc
  past false e = let same : p + n ≡ q = cc in sym same

-- a scalar is a gap, and what begins there
pub scalar_after : (e : Encoding) (s : Scalar) (p : ℕ) (o : List ℕ)
    → read_scalar e s p o ≡ then_on (read_gap (gap p (alignment_of e s)) p o) (λ x q b. read_here e s q b)
unfolding read_scalar
scalar_after e s p o = rw (word_after e (alignment_of e s) (width_of e s) p o) (after (read_gap (gap p (alignment_of e s)) p o) refl)
  where
    w : Width
    w = width_of e s

    ends : ℕ → Reading FaultKind ℤ → Reading FaultKind ℤ
    ends place r = then_on r (λ n q b. if is_scalar s n then got n q b else stop BadValue place)

    after : (r : Reading FaultKind (Unit {0})) → read_gap (gap p (alignment_of e s)) p o ≡ r
        → ends (scalar_place e s p) (map_got (number_of (is_signed s) w) (then_on r (λ x q b. read_word e 1 w q b))) ≡ then_on r (λ x q b.
        ends q (map_got (number_of (is_signed s) w) (read_word e 1 w q b)))
    after (got x q b) is =
        ap (λ z. ends z (map_got (number_of (is_signed s) w) (read_word e 1 w q b))) (sym (gap_got (gap p (alignment_of e s)) p o x q b is))
    after (stop k at) is = refl

pub ruleset scalars = (scalar_after)

pub ruleset kinds = (to_z-of_z)

-- where a number by itself has no descriptor
pub lone_read : (e : Encoding) (s : Scalar) (p : ℕ) (o : List ℕ) → (e ≡ Mach → ⊥) → read_lone e s p o ≡ read_scalar e s p o
lone_read Xdr s p o h = refl
lone_read CdrBig s p o h = refl
lone_read CdrLittle s p o h = refl
lone_read Mach s p o h = absurd (h refl)

pub place_of_lone : (e : Encoding) (s : Scalar) (p : ℕ) → (e ≡ Mach → ⊥) → lone_place e s p ≡ scalar_place e s p
place_of_lone Xdr s p h = refl
place_of_lone CdrBig s p h = refl
place_of_lone CdrLittle s p h = refl
place_of_lone Mach s p h = absurd (h refl)

pub ruleset places = (place_of_lone)

pub label_gap : (e : Encoding) (ls : List ℤ) → alignment_of e (number kind.I32) ≡ alignment_of e (label ls)
label_gap Xdr ls = refl
label_gap CdrBig ls = refl
label_gap CdrLittle ls = refl
label_gap Mach ls = refl

pub label_width : (e : Encoding) (ls : List ℤ) → width_of e (label ls) ≡ w32
label_width Xdr ls = refl
label_width CdrBig ls = refl
label_width CdrLittle ls = refl
label_width Mach ls = refl

pub ruleset lones = (lone_read, scalar_after, label_gap)

pub ruleset labels = (to_z-of_z, label_gap, label_width)

-- the number before one that is not 0
pub less : (m : ℕ) → (m ≡ 0 → ⊥) → (is_some (pos m) ≡ true) × (less_one (pos m) ≡ m - 1)
less zero h = absurd (h refl)
less (suc m) h = (refl, omega arith)

pub ruleset counts = (to_z-of_z, less)

pub text_ended : (e : Encoding) (c : Count) (p : ℕ) (o : List ℕ) → (e ≡ CdrBig) ⊎ (e ≡ CdrLittle)
    → read_head e (text c) p o ≡ read_ended e c p o
unfolding read_head
text_ended e c p o (inl is) = rw is refl
text_ended e c p o (inr is) = rw is refl

pub mach_head : (e : Encoding) (a : Array) (p : ℕ) (o : List ℕ) → e ≡ Mach
    → read_head e a p o ≡ read_described (count_of a) (number (kind_of a)) p o
unfolding read_head
mach_head e a p o is = rw is refl

pub xdr_text : (e : Encoding) (c : Count) (p : ℕ) (o : List ℕ) → e ≡ Xdr → read_head e (text c) p o ≡ read_count e c p o
unfolding read_head
xdr_text e c p o is = rw is refl

pub row_count : (e : Encoding) (k : Kind) (c : Count) (p : ℕ) (o : List ℕ) → (e ≡ Mach → ⊥)
    → read_head e (row_of k c) p o ≡ read_count e c p o
unfolding read_head
row_count Xdr k c p o h = refl
row_count CdrBig k c p o h = refl
row_count CdrLittle k c p o h = refl
row_count Mach k c p o h = absurd (h refl)

pub ruleset heads = (text_ended, mach_head, xdr_text, row_count)

pub zeros_read : (e : Encoding) (a : Array) (n p : ℕ) (o : List ℕ) → (e ≡ Mach → ⊥)
    → read_tail e a n p o ≡ read_zeros (trailing e a n) (ill_ended e) p o
unfolding read_tail
zeros_read Xdr a n p o h = refl
zeros_read CdrBig a n p o h = refl
zeros_read CdrLittle a n p o h = refl
zeros_read Mach a n p o h = absurd (h refl)

pub any_read : (e : Encoding) (a : Array) (n p : ℕ) (o : List ℕ) → e ≡ Mach → read_tail e a n p o ≡ read_any (trailing e a n) p o
unfolding read_tail
any_read e a n p o is = rw is refl

pub ruleset tails = (zeros_read, any_read)
