-- The span of a type: how long what is sent of its values is, by cases on the type.
use Rattle.std.specs.Prelude.{◌≡◌, ℕ, zero, suc, ◌+◌, ◌*◌, ◌<◌, Bool, true, ◌&&◌, List, length, Some, slice_get, if◌then◌else◌}
use Rattle.std.specs.Int.{byte_len}
use Rattle.mint.specs.declared.kind.Count.{Count}
use Rattle.mint.specs.declared.kind.Count.TheVariants.{Exactly, AtMost, Any}
use Rattle.mint.specs.declared.node.Node.{Node}
use Rattle.mint.specs.declared.kind.Kind.TheVariants as kind
use Rattle.mint.specs.Types.{Scalar, number, Array, text, row_of, Ty, void_type, scalar_type, array_type, group_type, items_type, choice_type, maybe_type, Tys, no_fields, field, Arms, no_other, others, arm_type, type_at}
use Rattle.wire_def.specs.declared.encoding.Encoding.{Encoding}
use Rattle.wire_def.specs.declared.encoding.Encoding.TheVariants.{Xdr, CdrBig, CdrLittle, Mach}
use Rattle.wire_def.specs.Scalars.{gap, alignment_of, width_of}
use Rattle.wire_def.specs.Lone.{filling}
use Rattle.wire_def.specs.Described.{is_long}
use Rattle.wire_def.specs.Arrays.{counted, count_of, kind_of, is_octets, trailing}
use Rattle.wire_def.specs.Send.{flag}
use Rattle.storage_class.specs.declared.span.Span.{Span}
use Rattle.storage_class.specs.declared.span.Span.TheVariants.{Fixed, Bounded, Unbounded}
use Rattle.storage_class.specs.Classing.{from_each, exactly, at_most, is_fixed, top, loose, sum_of_tops, after, either, times, times_top}

-- the octets of a scalar by itself from a position
abbrev pub lone_length : Encoding → Scalar → ℕ → ℕ
lone_length Mach s p = 4 + (byte_len (width_of Mach s) + filling s)
lone_length e s p = gap p (alignment_of e s) + byte_len (width_of e s)

abbrev pub scalar_span : Encoding → Scalar → Span
scalar_span e s = Fixed (from_each (lone_length e s))

-- ---- rows and texts

-- the octets of an array's element
abbrev pub element_length : Encoding → Array → ℕ
element_length e a = if is_octets a then 1 else byte_len (width_of e (number (kind_of a)))

-- the octets of so many elements, and of those after them
abbrev pub elements_length : Encoding → Array → ℕ → ℕ
elements_length e a n = n * element_length e a + trailing e a n

-- the octets before the first of so many aligned elements; 0 where there are none
abbrev pub first_gap : Array → ℕ → ℕ → ℕ
first_gap a p zero = 0
first_gap a p (suc n) = gap p (element_length CdrBig a)

-- the octets before the elements of a row of 64 bits after its count
abbrev pub wide_gap : Array → ℕ
wide_gap (row_of kind.I64 c) = 4
wide_gap (row_of kind.U64 c) = 4
wide_gap _ = 0

-- the octets of an array's descriptor in a Mach message
abbrev pub described_length : Array → ℕ
described_length a = if is_long (count_of a) (number (kind_of a)) then 12 else 4

-- the octets of an array of a fixed length from a position
abbrev pub array_length : Encoding → Array → ℕ → ℕ → ℕ
array_length Xdr a n p = elements_length Xdr a n
array_length Mach a n p = described_length a + elements_length Mach a n
array_length e a n p = first_gap a p n + elements_length e a n

-- the most octets of an array of at most so many elements, from any position
abbrev pub array_most : Encoding → Array → ℕ → ℕ
array_most Xdr a n = 4 + elements_length Xdr a n
array_most Mach a n = described_length a + elements_length Mach a n
array_most e a n = 7 + (wide_gap a + elements_length e a n)

-- the span of an array by its count, except of a text over CDR
abbrev pub array_counted : Encoding → Array → Count → Span
array_counted e a (Exactly n) = exactly (from_each (array_length e a n))
array_counted e a (AtMost n) = at_most (array_most e a n)
array_counted e a Any = Unbounded

-- the span of a text over CDR, with a length before it and an octet after it also where its count is fixed
abbrev pub text_counted : Encoding → Count → Span
text_counted e (Exactly n) = at_most (array_most e (text (Exactly n)) n)
text_counted e (AtMost n) = at_most (array_most e (text (AtMost n)) n)
text_counted e Any = Unbounded

abbrev pub array_span : Encoding → Array → Span
array_span CdrBig (text c) = text_counted CdrBig c
array_span CdrLittle (text c) = text_counted CdrLittle c
array_span e a = array_counted e a (count_of a)

-- ---- types

-- the span of a list, by its count and the span of an element
abbrev pub items_span : Encoding → Count → Span → Span
items_span e (Exactly n) s = times n s
items_span e (AtMost n) s = after (scalar_span e counted) (times_top n (top s))
items_span e Any s = Unbounded

abbrev mutual
  -- the span of what is sent of a value of the type
  pub span : Encoding → Ty → Span
  span e void_type = Fixed (from_each (λ p. 0))
  span e (scalar_type s) = scalar_span e s
  span e (array_type a) = array_span e a
  span e (group_type ts) = if are_fixed e ts then chain e ts else sum_of e ts
  span e (items_type c t) = items_span e c (span e t)
  span e (choice_type s arms) = after (scalar_span e s) (arms_span e arms)
  span e (maybe_type t) = after (scalar_span e flag) (loose (span e t))

  -- whether the lengths of all fields are fixed
  pub are_fixed : Encoding → Tys → Bool
  are_fixed e no_fields = true
  are_fixed e (field t ts) = is_fixed (span e t) && are_fixed e ts

  -- the span of fields whose lengths are fixed, one after the other
  pub chain : Encoding → Tys → Span
  chain e no_fields = Fixed (from_each (λ p. 0))
  chain e (field t ts) = after (span e t) (chain e ts)

  -- the span of fields by their greatest lengths together
  pub sum_of : Encoding → Tys → Span
  sum_of e no_fields = Bounded 0
  sum_of e (field t ts) = sum_of_tops (top (span e t)) (top (sum_of e ts))

  -- the span of whichever arm there is
  pub arms_span : Encoding → Arms → Span
  arms_span e no_other = Bounded 0
  arms_span e (others t) = loose (span e t)
  arms_span e (arm_type n t arms) = either (span e t) (arms_span e arms)

-- the span of fields: one after the other where all lengths are fixed, otherwise the sum of the greatest ones
abbrev pub fields_span : Encoding → Tys → Span
fields_span e ts = if are_fixed e ts then chain e ts else sum_of e ts

-- ---- tables

-- spans over an encoding, one for each node of a table
pub record Spanned : Type 0 where
  pub enc : Encoding
  pub spans : List Span

-- spans of the first nodes of a table
abbrev pub AreSpans : Encoding → List Node → List Span → Type 0
AreSpans e nodes spans = (i : ℕ) → i < length spans → slice_get spans i ≡ Some (span e (type_at nodes i))

-- the spans of all nodes of a table
abbrev pub AreClasses : List Node → Spanned → Type 0
AreClasses nodes c = (length c.spans ≡ length nodes) × AreSpans c.enc nodes c.spans
