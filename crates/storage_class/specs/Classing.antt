-- Classes of storage, and how that of a whole follows from those of its parts.
use Rattle.std.specs.Prelude.{ℕ, zero, suc, ◌+◌, ◌*◌, ◌%◌, ◌≡◌, ◌≤◌, max, nat_le, if◌then◌else◌, Bool, true, false, List, [], ◌∷◌, slice_index_or, Option, None, Some}
use Rattle.std.specs.List.{list_all}
use Rattle.storage_class.specs.declared.span.Span.{Span}
use Rattle.storage_class.specs.declared.span.Span.TheVariants.{Fixed, Bounded, Unbounded}
use Rattle.storage_class.specs.declared.classes.Class.{Class}
use Rattle.storage_class.specs.declared.classes.Class.TheVariants as class

-- ---- lengths by the remainder of the position modulo 8

-- the lengths that a function gives for the eight remainders
abbrev pub from_each : (ℕ → ℕ) → List ℕ
from_each f = f 0 ∷ f 1 ∷ f 2 ∷ f 3 ∷ f 4 ∷ f 5 ∷ f 6 ∷ f 7 ∷ []

-- the length from a position
unfoldable pub length_at : List ℕ → ℕ → ℕ
length_at f p = slice_index_or f (p % 8) 0

-- the length from a position of one part and another after it
abbrev pub length_after : List ℕ → List ℕ → ℕ → ℕ
length_after f g p = length_at f p + length_at g (p + length_at f p)

-- the length from a position of so many parts of the same lengths, one after the other
unfoldable pub run : ℕ → List ℕ → ℕ → ℕ
run zero f p = 0
run (suc n) f p = length_at f p + run n f (p + length_at f p)

-- the greatest of lengths; 0 where there are none
abbrev pub greatest : List ℕ → ℕ
greatest [] = 0
greatest (n ∷ ns) = max n (greatest ns)

-- ---- spans

-- the fixed span of lengths; unbounded where one is above 4,294,967,295
abbrev pub exactly : List ℕ → Span
exactly f = if list_all (λ n. nat_le n 4294967295) f then Fixed f else Unbounded

-- the span of a bound; unbounded where it is above 4,294,967,295
abbrev pub at_most : ℕ → Span
at_most n = if nat_le n 4294967295 then Bounded n else Unbounded

-- whether lengths are fixed
abbrev pub is_fixed : Span → Bool
is_fixed (Fixed f) = true
is_fixed _ = false

-- the greatest of fixed lengths, or the bound, if there is one
abbrev pub top : Span → Option ℕ
top (Fixed f) = Some (greatest f)
top (Bounded n) = Some n
top Unbounded = None

-- a span with the same bound, and no fixed length
abbrev pub loose : Span → Span
loose (Fixed f) = Bounded (greatest f)
loose s = s

-- the span of two parts together, by their bounds
abbrev pub sum_of_tops : Option ℕ → Option ℕ → Span
sum_of_tops (Some m) (Some n) = at_most (m + n)
sum_of_tops _ _ = Unbounded

-- the span of one of two parts, by their bounds
abbrev pub greater_top : Option ℕ → Option ℕ → Span
greater_top (Some m) (Some n) = Bounded (max m n)
greater_top _ _ = Unbounded

-- the span of so many parts, by the bound of each
abbrev pub times_top : ℕ → Option ℕ → Span
times_top n (Some m) = at_most (n * m)
times_top n None = Unbounded

-- the span of a part and another after it
abbrev pub after : Span → Span → Span
after (Fixed f) (Fixed g) = exactly (from_each (length_after f g))
after a b = sum_of_tops (top a) (top b)

-- the span of one of two parts
abbrev pub either : Span → Span → Span
either a b = greater_top (top a) (top b)

-- the span of so many parts one after the other
abbrev pub times : ℕ → Span → Span
times n (Fixed f) = exactly (from_each (run n f))
times n s = times_top n (top s)

-- the class of a span
abbrev pub class_of : Span → Class
class_of (Fixed f) = class.Fixed f
class_of (Bounded n) = class.Bounded n
class_of Unbounded = class.Unbounded

-- a length that a span allows from a position
abbrev pub HasLength : Span → ℕ → ℕ → Type 0
HasLength (Fixed f) p l = l ≡ length_at f p
HasLength (Bounded n) p l = l ≤ n
HasLength Unbounded p l = Unit {0}
