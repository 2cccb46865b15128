-- Counts, rows and texts: what gives their length, their elements, and what follows them.
use Rattle.std.specs.Prelude.{◌≡◌, ◌⊎◌, ℕ, zero, suc, ◌+◌, ◌*◌, ℤ, pos, negsuc, List, [], ◌∷◌, ◌++◌, length, replicate, Bool, true, false, IsTrue, nat_lt, nat_le, if◌then◌else◌}
use Rattle.mint.specs.declared.kind.Kind.{Kind}
use Rattle.mint.specs.declared.kind.Kind.TheVariants as kind
use Rattle.mint.specs.declared.kind.Count.{Count}
use Rattle.mint.specs.declared.kind.Count.TheVariants.{Exactly, AtMost, Any}
use Rattle.mint.specs.Types.{Scalar, number, Array, text, row_of}
use Rattle.std.specs.Int.{byte_len}
use Rattle.wire_def.specs.declared.encoding.Encoding.{Encoding}
use Rattle.wire_def.specs.declared.encoding.Encoding.TheVariants.{Xdr, CdrBig, CdrLittle, Mach}
use Rattle.wire_def.specs.declared.fault.FaultKind.{FaultKind}
use Rattle.wire_def.specs.declared.fault.FaultKind.TheVariants.{Short, OverBound, BadPad, BadText}
use Rattle.wire_def.specs.Grammar.{got, stop, Reader, Spelling, Stopping, map_got, both, times, tested, Parts, SpellTimes, StopTimes}
use Rattle.wire_def.specs.Scalars.{gap, width_of, scalar_octets, scalar_place, ScalarSpells, ScalarStops, read_scalar}
use Rattle.wire_def.specs.Lone.{AnySpell, AnyStop, read_any, lone_octets, lone_place, LoneSpells, LoneStops, read_lone}
use Rattle.wire_def.specs.Described.{allowed, described_octets, DescribedSpells, DescribedStops, read_described}

-- ---- counts

-- a number, or 0 where it is below 0
abbrev pub natural : ℤ → ℕ
natural (pos n) = n
natural (negsuc n) = 0

-- the scalar that a count travels as
abbrev pub counted : Scalar
counted = number kind.U32

-- the octets of a count, which a fixed length does not have
unfoldable pub count_octets : Encoding → Count → ℕ → ℕ → List ℕ
count_octets e (Exactly m) p n = []
count_octets e _ p n = lone_octets e counted p (pos n)

-- a count within its bound, or the fixed length in no octets
unfoldable pub CountSpells : Encoding → Count → Spelling ℕ
CountSpells e (Exactly m) p o n = (o ≡ []) × (m ≡ n)
CountSpells e (AtMost m) p o n = LoneSpells e counted p o (pos n) × IsTrue (nat_le n m)
CountSpells e Any p o n = LoneSpells e counted p o (pos n)

-- a count that is cut off, or above its bound
unfoldable pub CountStops : Encoding → Count → Stopping FaultKind
CountStops e (Exactly m) p o k at = ⊥
CountStops e (AtMost m) p o k at = LoneStops e counted p o k at
    ⊎ ((n : ℕ) × Parts p o (λ a. LoneSpells e counted p a (pos n))
    (λ q b. (nat_le n m ≡ false) × (k ≡ OverBound) × (at ≡ lone_place e counted p)))
CountStops e Any p o k at = LoneStops e counted p o k at

-- a count, read from a position
unfoldable pub read_count : Encoding → Count → Reader FaultKind ℕ
read_count e (Exactly m) p o = got m p o
read_count e (AtMost m) p o = tested (λ q b. map_got natural (read_lone e counted q b)) (λ n. nat_le n m) OverBound
    (lone_place e counted) p o
read_count e Any p o = map_got natural (read_lone e counted p o)

-- ---- octets by themselves

-- an octet that passes the test
unfoldable pub OctetSpells : (ℕ → Bool) → Spelling ℤ
OctetSpells test p o n = (b : ℕ) × (o ≡ b ∷ []) × (n ≡ pos b) × IsTrue (test b)

-- no octet, or one that does not pass the test
unfoldable pub OctetStops : (ℕ → Bool) → FaultKind → Stopping FaultKind
OctetStops test fault p [] k at = (k ≡ Short) × (at ≡ p)
OctetStops test fault p (b ∷ o) k at = (test b ≡ false) × (k ≡ fault) × (at ≡ p)

-- an octet that passes the test, read from a position
unfoldable pub read_octet : (ℕ → Bool) → FaultKind → Reader FaultKind ℤ
read_octet test fault p [] = stop Short p
read_octet test fault p (b ∷ o) = if test b then got (pos b) (p + 1) o else stop fault p

-- the first of so many octets that is missing or is not 0
unfoldable pub ZerosStop : ℕ → FaultKind → Stopping FaultKind
ZerosStop zero fault p o k at = ⊥
ZerosStop (suc n) fault p [] k at = (k ≡ Short) × (at ≡ p)
ZerosStop (suc n) fault p (zero ∷ o) k at = ZerosStop n fault (p + 1) o k at
ZerosStop (suc n) fault p (suc b ∷ o) k at = (k ≡ fault) × (at ≡ p)

-- so many octets 0, read from a position
unfoldable pub read_zeros : ℕ → FaultKind → Reader FaultKind (Unit {0})
read_zeros zero fault p o = got tt p o
read_zeros (suc n) fault p [] = stop Short p
read_zeros (suc n) fault p (zero ∷ o) = read_zeros n fault (p + 1) o
read_zeros (suc n) fault p (suc b ∷ o) = stop fault p

-- ---- the elements of rows and texts

-- the count of an array's elements
abbrev pub count_of : Array → Count
count_of (text c) = c
count_of (row_of k c) = c

-- the kind of an array's elements
abbrev pub kind_of : Array → Kind
kind_of (text c) = kind.Char
kind_of (row_of k c) = k

-- whether each element is one octet
abbrev pub is_octets : Array → Bool
is_octets (text c) = true
is_octets (row_of kind.Octet c) = true
is_octets (row_of k c) = false

-- an octet that may be in the array: in a text each but 0
abbrev pub may_stand : Array → ℕ → Bool
may_stand (text c) b = nat_lt 0 b
may_stand (row_of k c) b = true

-- the octets of an element: itself, or a scalar
unfoldable pub element_octets : Encoding → Array → ℕ → ℤ → List ℕ
element_octets e a p n = if is_octets a then natural n ∷ [] else scalar_octets e (number (kind_of a)) p n

-- the octets of the elements, one after the other
unfoldable pub elements_octets : (ℕ → ℤ → List ℕ) → ℕ → List ℤ → List ℕ
elements_octets one p [] = []
elements_octets one p (n ∷ ns) = one p n ++ elements_octets one (p + length (one p n)) ns

-- an element in its octets
unfoldable pub ElementSpells : Encoding → Array → Spelling ℤ
ElementSpells e (text c) = OctetSpells (may_stand (text c))
ElementSpells e (row_of kind.Octet c) = OctetSpells (λ b. true)
ElementSpells e (row_of k c) = ScalarSpells e (number k)

-- an element that is cut off, or is not of its kind
unfoldable pub ElementStops : Encoding → Array → Stopping FaultKind
ElementStops e (text c) = OctetStops (may_stand (text c)) BadText
ElementStops e (row_of kind.Octet c) = OctetStops (λ b. true) BadText
ElementStops e (row_of k c) = ScalarStops e (number k)

-- an element, read from a position
unfoldable pub read_element : Encoding → Array → Reader FaultKind ℤ
read_element e (text c) = read_octet (may_stand (text c)) BadText
read_element e (row_of kind.Octet c) = read_octet (λ b. true) BadText
read_element e (row_of k c) = read_scalar e (number k)

-- ---- the heads of arrays

-- whether a number is above 0, and the number before it
abbrev pub is_some : ℤ → Bool
is_some (pos (suc n)) = true
is_some _ = false

abbrev pub less_one : ℤ → ℕ
less_one (pos (suc n)) = n
less_one _ = 0

-- the length of a text over CDR: of its octets and the 0 after them
abbrev pub ended_octets : Encoding → ℕ → ℕ → List ℕ
ended_octets e p n = scalar_octets e counted p (pos (suc n))

abbrev pub EndedSpells : Encoding → Count → Spelling ℕ
EndedSpells e c p o n = ScalarSpells e counted p o (pos (suc n)) × IsTrue (allowed c n)

-- a length that is cut off, or 0, or above its bound
abbrev pub EndedStops : Encoding → Count → Stopping FaultKind
EndedStops e c p o k at =
    (ScalarStops e counted p o k at
    ⊎ ((m : ℤ) × Parts p o (λ a. ScalarSpells e counted p a m)
    (λ q b. (is_some m ≡ false) × (k ≡ BadText) × (at ≡ scalar_place e counted p))))
    ⊎ ((n : ℕ) × Parts p o (λ a. ScalarSpells e counted p a (pos (suc n)))
    (λ q b. (allowed c n ≡ false) × (k ≡ OverBound) × (at ≡ scalar_place e counted p)))

abbrev pub read_ended : Encoding → Count → Reader FaultKind ℕ
read_ended e c = tested
    (λ q b. map_got less_one (tested (read_scalar e counted) is_some BadText (scalar_place e counted) q b))
    (allowed c) OverBound (scalar_place e counted)

-- what comes before an array's elements and gives their number: a count, one more for a text over CDR, or a descriptor
unfoldable pub head_octets : Encoding → Array → ℕ → ℕ → List ℕ
head_octets CdrBig (text c) p n = ended_octets CdrBig p n
head_octets CdrLittle (text c) p n = ended_octets CdrLittle p n
head_octets Mach a p n = described_octets (count_of a) (number (kind_of a)) n
head_octets e a p n = count_octets e (count_of a) p n

unfoldable pub HeadSpells : Encoding → Array → Spelling ℕ
HeadSpells CdrBig (text c) = EndedSpells CdrBig c
HeadSpells CdrLittle (text c) = EndedSpells CdrLittle c
HeadSpells Mach a = DescribedSpells (count_of a) (number (kind_of a))
HeadSpells e a = CountSpells e (count_of a)

unfoldable pub HeadStops : Encoding → Array → Stopping FaultKind
HeadStops CdrBig (text c) = EndedStops CdrBig c
HeadStops CdrLittle (text c) = EndedStops CdrLittle c
HeadStops Mach a = DescribedStops (count_of a) (number (kind_of a))
HeadStops e a = CountStops e (count_of a)

unfoldable pub read_head : Encoding → Array → Reader FaultKind ℕ
read_head CdrBig (text c) = read_ended CdrBig c
read_head CdrLittle (text c) = read_ended CdrLittle c
read_head Mach a = read_described (count_of a) (number (kind_of a))
read_head e a = read_count e (count_of a)

-- ---- what follows the elements

-- how many octets: XDR and Mach fill up to a multiple of 4, CDR ends a text
abbrev pub trailing : Encoding → Array → ℕ → ℕ
trailing Xdr a n = if is_octets a then gap n 4 else 0
trailing Mach a n = gap (n * byte_len (width_of Mach (number (kind_of a)))) 4
trailing _ (text c) n = 1
trailing _ (row_of k c) n = 0

-- the fault of an octet there that is not 0
abbrev pub ill_ended : Encoding → FaultKind
ill_ended Xdr = BadPad
ill_ended _ = BadText

-- octets 0, in Mach messages any
unfoldable pub TailSpells : Encoding → Array → ℕ → Spelling (Unit {0})
TailSpells Mach a n p o x = AnySpell (trailing Mach a n) p o x
TailSpells e a n p o x = o ≡ replicate (trailing e a n) 0

unfoldable pub TailStops : Encoding → Array → ℕ → Stopping FaultKind
TailStops Mach a n = AnyStop (trailing Mach a n)
TailStops e a n = ZerosStop (trailing e a n) (ill_ended e)

unfoldable pub read_tail : Encoding → Array → ℕ → Reader FaultKind (Unit {0})
read_tail Mach a n = read_any (trailing Mach a n)
read_tail e a n = read_zeros (trailing e a n) (ill_ended e)

-- ---- arrays

-- the octets of an array (XDR: RFC 4506 sections 4.9 to 4.13)
unfoldable pub array_octets : Encoding → Array → ℕ → List ℤ → List ℕ
unfolding elements_octets
array_octets e a p ns =
    let head = head_octets e a p (length ns) in
    head ++ (elements_octets (element_octets e a) (p + length head) ns ++ replicate (trailing e a (length ns)) 0)

-- the numbers of an array in its octets
unfoldable pub ArraySpells : Encoding → Array → Spelling (List ℤ)
ArraySpells e a p o ns =
    Parts p o (λ x. HeadSpells e a p x (length ns))
    (λ q b. Parts q b (λ x. SpellTimes (ElementSpells e a) (length ns) q x ns) (λ r d. TailSpells e a (length ns) r d tt))

-- the first fault of an array: at its head, at an element, or after them
unfoldable pub ArrayStops : Encoding → Array → Stopping FaultKind
ArrayStops e a p o k at =
    HeadStops e a p o k at
    ⊎ ((n : ℕ) × Parts p o (λ x. HeadSpells e a p x n) (λ q b.
    StopTimes (ElementSpells e a) (ElementStops e a) n q b k at
    ⊎ ((ns : List ℤ) × Parts q b (λ x. SpellTimes (ElementSpells e a) n q x ns) (λ r d. TailStops e a n r d k at))))

-- the numbers of an array, read from a position
unfoldable pub read_array : Encoding → Array → Reader FaultKind (List ℤ)
read_array e a p o = map_got (λ x. x.1.0) (both (read_head e a) (λ n. both (times (read_element e a) n) (λ _. read_tail e a n)) p o)
