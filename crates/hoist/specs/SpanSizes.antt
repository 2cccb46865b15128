-- The sizes of types by the spans of what is sent of them.
use Rattle.std.specs.Prelude.{ℕ, ◌-◌, min, List, [], ◌∷◌}
use Rattle.mint.specs.declared.kind.Count.{Count}
use Rattle.mint.specs.declared.kind.Count.TheVariants.{Exactly}
use Rattle.mint.specs.Types.{Scalar, Array, Ty, array_type, items_type, choice_type, maybe_type}
use Rattle.wire_def.specs.declared.encoding.Encoding.{Encoding}
use Rattle.wire_def.specs.declared.encoding.Encoding.TheVariants.{Mach}
use Rattle.wire_def.specs.Arrays.{counted, count_of}
use Rattle.wire_def.specs.Send.{flag}
use Rattle.storage_class.specs.declared.span.Span.{Span}
use Rattle.storage_class.specs.declared.span.Span.TheVariants.{Fixed, Bounded, Unbounded}
use Rattle.storage_class.specs.Classing.{from_each, greatest, is_fixed, top}
use Rattle.storage_class.specs.Spans.{lone_length, described_length, span}
use Rattle.hoist.specs.Regions.{Sizes}

-- the least of lengths
abbrev pub least : List ℕ → ℕ
least [] = 0
least (n ∷ []) = n
least (n ∷ m ∷ ns) = min n (least (m ∷ ns))

-- one less than the least length, where lengths are known, or than their bound
abbrev pub weight_of : Span → ℕ
weight_of (Fixed f) = least f - 1
weight_of (Bounded n) = n - 1
weight_of Unbounded = 0

-- the greatest length of a scalar by itself
abbrev pub scalar_top : Encoding → Scalar → ℕ
scalar_top e s = greatest (from_each (lone_length e s))

-- that of the count of a list, if it is sent
abbrev pub count_length : Encoding → Count → ℕ
count_length e (Exactly n) = 0
count_length e _ = scalar_top e counted

-- the octets before a row's or text's elements: its descriptor in a Mach message, elsewhere its count, if it is sent
abbrev pub array_front : Encoding → Array → ℕ
array_front Mach a = described_length a
array_front e a = count_length e (count_of a)

-- the octets before the elements, the arm or the value
abbrev pub front_length : Encoding → Ty → ℕ
front_length e (array_type a) = array_front e a
front_length e (items_type c t) = count_length e c
front_length e (choice_type s arms) = scalar_top e s
front_length e (maybe_type t) = scalar_top e flag
front_length e _ = 0

-- what the spans of an encoding say
abbrev pub sizes : Encoding → Sizes
sizes e = record { top = λ t. top (span e t); fixed = λ t. is_fixed (span e t); front = front_length e; weight = λ t. weight_of (span e t) }
