-- What is sent has at most 16 octets for each of the value's weight, by mutual induction on types, fields and arms.
use Rattle.std.proofs.Common.{◌≡◌, ℕ, suc, ◌+◌, ◌*◌, ◌≤◌, ℤ, pos, List, [], ◌∷◌, length, Bool, true, false, cond, int_eq, arith, lit≤, length-append}
use Rattle.std.specs.Int.{Width, byte_len}
use Rattle.std.proofs.lemmas.List.{length-replicate}
use Rattle.mint.specs.declared.kind.Kind.TheVariants as kind
use Rattle.mint.specs.declared.kind.Count.{Count}
use Rattle.mint.specs.declared.kind.Count.TheVariants.{Exactly, AtMost, Any}
use Rattle.mint.specs.Values.{Val, num, row, group, items, arm, absent, present, Vals, no_more, val, count, weight, weights}
use Rattle.mint.specs.Types.{Scalar, number, Array, text, row_of, Ty, scalar_type, array_type, group_type, items_type, choice_type, maybe_type, Tys, field, Arms, no_other, others, arm_type}
use Rattle.wire_def.specs.declared.encoding.Encoding.{Encoding}
use Rattle.wire_def.specs.declared.encoding.Encoding.TheVariants.{Xdr, CdrBig, CdrLittle, Mach}
use Rattle.wire_def.specs.Scalars.{gap, residue, own_width, width_of, alignment_of, scalar_octets}
use Rattle.wire_def.specs.Lone.{filling, lone_octets}
use Rattle.wire_def.specs.Arrays.{counted, count_of, kind_of, is_octets, count_octets, head_octets, trailing, element_octets, elements_octets, array_octets}
use Rattle.wire_def.specs.Send.{flag, followed, send_each, send, send_fields, send_arm}
use Rattle.wire_def.proofs.DescribedGrammar.{described_most}
use Rattle.wire_def.proofs.Words.{IsOwn, is8, is16, is32, is64, own_of, wide}

-- a number has at most 8 octets
width_most : (w : Width) → IsOwn w → byte_len w ≤ 8
width_most _ is8 = lit≤ tt
width_most _ is16 = lit≤ tt
width_most _ is32 = lit≤ tt
width_most _ is64 = lit≤ tt

-- the gap before a number has at most 7 octets
pub gap_most : (w : Width) → IsOwn w → (p : ℕ) → gap p (byte_len w) ≤ 7
gap_most _ is8 p = omega arith
gap_most _ is16 p = omega arith
gap_most _ is32 p = omega arith
gap_most _ is64 p = omega arith

no_gap : (p : ℕ) → gap p 1 ≤ 0
no_gap p = omega arith

before_most : (e : Encoding) (s : Scalar) (p : ℕ) → gap p (alignment_of e s) ≤ 7
before_most Xdr s p = omega (arith, no_gap p)
before_most CdrBig s p = gap_most (own_width s) (own_of CdrBig s) p
before_most CdrLittle s p = gap_most (own_width s) (own_of CdrLittle s) p
before_most Mach s p = omega (arith, no_gap p)

pub scalar_long : (e : Encoding) (s : Scalar) (p : ℕ) (n : ℤ)
    → length (scalar_octets e s p n) ≡ gap p (alignment_of e s) + byte_len (width_of e s)
unfolding scalar_octets
scalar_long e s p n =
    let long = (wide e s).len (residue (width_of e s) n) in
    rw length-append (omega (arith, long, length-replicate {A = ℕ} (gap p (alignment_of e s)) 0))

scalar_most : (e : Encoding) (s : Scalar) (p : ℕ) (n : ℤ) → length (scalar_octets e s p n) ≤ 15
scalar_most e s p n = omega (arith, scalar_long e s p n, before_most e s p, width_most (width_of e s) (own_of e s))

filling_most : (s : Scalar) → filling s ≤ 3
filling_most s = omega arith

lone_most : (e : Encoding) (s : Scalar) (p : ℕ) (n : ℤ) → length (lone_octets e s p n) ≤ 15
lone_most Xdr s p n = scalar_most Xdr s p n
lone_most CdrBig s p n = scalar_most CdrBig s p n
lone_most CdrLittle s p n = scalar_most CdrLittle s p n
lone_most Mach s p n =
    let inside = scalar_long Mach s (p + 4) n in
    simp (length-append, length-replicate)
    (omega (arith, inside, no_gap (p + 4), width_most (width_of Mach s) (own_of Mach s), filling_most s))

counted_most : (e : Encoding) (p : ℕ) (n : ℤ) → length (scalar_octets e counted p n) ≤ 7
counted_most Xdr p n = omega (arith, scalar_long Xdr counted p n, no_gap p)
counted_most CdrBig p n = omega (arith, scalar_long CdrBig counted p n)
counted_most CdrLittle p n = omega (arith, scalar_long CdrLittle counted p n)
counted_most Mach p n = omega (arith, scalar_long Mach counted p n, no_gap p)

lone_counted_most : (e : Encoding) (p : ℕ) (n : ℤ) → length (lone_octets e counted p n) ≤ 12
lone_counted_most Xdr p n = omega (arith, counted_most Xdr p n)
lone_counted_most CdrBig p n = omega (arith, counted_most CdrBig p n)
lone_counted_most CdrLittle p n = omega (arith, counted_most CdrLittle p n)
lone_counted_most Mach p n =
    let inside = counted_most Mach (p + 4) n in
    simp (length-append) (omega (arith, inside))

count_most : (e : Encoding) (c : Count) (p n : ℕ) → length (count_octets e c p n) ≤ 12
unfolding count_octets
count_most e (Exactly m) p n = lit≤ tt
count_most e (AtMost m) p n = lone_counted_most e p (pos n)
count_most e Any p n = lone_counted_most e p (pos n)

head_most : (e : Encoding) (a : Array) (p n : ℕ) → length (head_octets e a p n) ≤ 12
unfolding head_octets
head_most Xdr a p n = count_most Xdr (count_of a) p n
head_most Mach a p n = described_most (count_of a) (number (kind_of a)) n
head_most CdrBig (text c) p n = omega (arith, counted_most CdrBig p (pos (suc n)))
head_most CdrBig (row_of k c) p n = count_most CdrBig c p n
head_most CdrLittle (text c) p n = omega (arith, counted_most CdrLittle p (pos (suc n)))
head_most CdrLittle (row_of k c) p n = count_most CdrLittle c p n

either_most : (b : Bool) (k : ℕ) (x y : List ℕ) → length x ≤ k → length y ≤ k → length (cond b x y) ≤ k
either_most true k x y h j = h
either_most false k x y h j = j

element_most : (e : Encoding) (a : Array) (p : ℕ) (n : ℤ) → length (element_octets e a p n) ≤ 15
unfolding element_octets
element_most e (text c) p n = lit≤ tt
element_most e (row_of kind.Octet c) p n = lit≤ tt
element_most e (row_of k c) p n = scalar_most e (number k) p n

elements_most : (one : ℕ → ℤ → List ℕ) → ((p : ℕ) (n : ℤ) → length (one p n) ≤ 15) → (p : ℕ) (ns : List ℤ)
    → length (elements_octets one p ns) ≤ 15 * length ns
unfolding elements_octets
elements_most one each p [] = lit≤ tt
elements_most one each p (n ∷ ns) =
    let here = each p n in
    let after = elements_most one each (p + length (one p n)) ns in
    rw length-append (omega (arith, here, after))

padding_most : (b : Bool) (n : ℕ) → cond b (gap n 4) 0 ≤ 3
padding_most true n = omega arith
padding_most false n = lit≤ tt

trailing_most : (e : Encoding) (a : Array) (n : ℕ) → trailing e a n ≤ 3
trailing_most Xdr a n = padding_most (is_octets a) n
trailing_most CdrBig (text c) n = lit≤ tt
trailing_most CdrBig (row_of k c) n = lit≤ tt
trailing_most CdrLittle (text c) n = lit≤ tt
trailing_most CdrLittle (row_of k c) n = lit≤ tt
trailing_most Mach a n = omega arith

array_most : (e : Encoding) (a : Array) (p : ℕ) (ns : List ℤ) → length (array_octets e a p ns) ≤ 16 * suc (length ns)
unfolding array_octets
array_most e a p ns =
    let head = head_octets e a p (length ns) in
    let first = head_most e a p (length ns) in
    let second = elements_most (element_octets e a) (element_most e a) (p + length head) ns in
    let third = trailing_most e a (length ns) in
    simp (length-append, length-replicate) (omega (arith, first, second, third))

-- two that follow one another
both_most : (p : ℕ) (o : List ℕ) (more : ℕ → List ℕ) (k l : ℕ) → length o ≤ k → length (more (p + length o)) ≤ l
    → length (followed p o more) ≤ k + l
both_most p o more k l h j = rw length-append (omega arith)

each_most : (one : ℕ → Val → List ℕ) → ((p : ℕ) (v : Val) → length (one p v) ≤ 16 * weight v) → (p : ℕ) (vs : Vals)
    → length (send_each one p vs) ≤ 16 * weights vs
each_most one each p no_more = lit≤ tt
each_most one each p (val v vs) =
    let here = each p v in
    let after = each_most one each (p + length (one p v)) vs in
    rw length-append (omega (arith, here, after))

mutual
  unfolding send

  pub sent_most : (e : Encoding) (t : Ty) (p : ℕ) (v : Val) → length (send e t p v) ≤ 16 * weight v
  sent_most e (scalar_type s) p (num n) = omega (arith, lone_most e s p n)
  sent_most e (array_type a) p (row k ns) = array_most e a p ns
  sent_most e (group_type ts) p (group vs) = fields_most e ts p vs
  sent_most e (items_type c t) p (items vs) =
      let first = count_most e c p (count vs) in
      let second = each_most (send e t) (sent_most e t) (p + length (count_octets e c p (count vs))) vs in
      omega (arith, both_most p (count_octets e c p (count vs)) (λ q. send_each (send e t) q vs) 12 (16 * weights vs) first second)
  sent_most e (choice_type s arms) p (arm n v) =
      let first = lone_most e s p n in
      let second = arm_most e arms n (p + length (lone_octets e s p n)) v in
      omega (arith, both_most p (lone_octets e s p n) (λ q. send_arm e arms n q v) 15 (16 * weight v) first second)
  sent_most e (maybe_type t) p absent = omega (arith, lone_most e flag p (pos 0))
  sent_most e (maybe_type t) p (present v) =
      let first = lone_most e flag p (pos 1) in
      let second = sent_most e t (p + length (lone_octets e flag p (pos 1))) v in
      omega (arith, both_most p (lone_octets e flag p (pos 1)) (λ q. send e t q v) 15 (16 * weight v) first second)
  sent_most e _ p v = omega arith

  fields_most : (e : Encoding) (ts : Tys) (p : ℕ) (vs : Vals) → length (send_fields e ts p vs) ≤ 16 * weights vs
  fields_most e (field t ts) p (val v vs) =
      let first = sent_most e t p v in
      let second = fields_most e ts (p + length (send e t p v)) vs in
      omega (arith, both_most p (send e t p v) (λ q. send_fields e ts q vs) (16 * weight v) (16 * weights vs) first second)
  fields_most e _ p vs = omega arith

  arm_most : (e : Encoding) (arms : Arms) (n : ℤ) (p : ℕ) (v : Val) → length (send_arm e arms n p v) ≤ 16 * weight v
  arm_most e no_other n p v = omega arith
  arm_most e (others t) n p v = sent_most e t p v
  arm_most e (arm_type m t arms) n p v = either_most (int_eq n m) (16 * weight v) (send e t p v) (send_arm e arms n p v)
      (sent_most e t p v) (arm_most e arms n p v)
