-- What a call that appends octets has done.
use Rattle.std.specs.Prelude.{◌≡◌, ℕ, ℤ, ◌+◌, ◌≤◌, List, ◌++◌, length, replicate, Result, Ok, Err}
use Rattle.kit_base.specs.declared.errors.NoMemory.{NoMemory}
use Rattle.kit_base.specs.Limits.{longest_message}
use Rattle.kit_base.specs.Bytes.{le}
use Rattle.mint.specs.declared.kind.Kind.{Kind}
use Rattle.mint.specs.Types.{Scalar, number, Array}
use Rattle.wire_def.specs.declared.encoding.Encoding.{Encoding}
use Rattle.wire_def.specs.Scalars.{gap, width_of, alignment_of, number_octets, residue}
use Rattle.wire_def.specs.Lone.{unit_name, unit_bits, short_word}
use Rattle.wire_def.specs.Described.{long_mark, long_words}
use Rattle.wire_def.specs.Arrays.{element_octets, elements_octets, head_octets, trailing}
use Rattle.wire_def.specs.Send.{followed}

-- the octets were appended, and the position went past them; or, out of memory, a prefix of them was appended
abbrev pub Appends : List ℕ → List ℕ → ℕ → List ℕ → Result ℕ NoMemory → Type 0
Appends old new p o (Ok q) = (new ≡ old ++ o) × (q + length old ≡ p + length new)
Appends old new p o (Err _) = (rest : List ℕ) × (old ++ o ≡ new ++ rest) × (length old ≤ length new)

-- a position that is hardly past the octets, so that no position overflows
abbrev pub IsNear : ℕ → List ℕ → Type 0
IsNear p old = p ≤ longest_message + length old

-- a prefix of the octets was appended
abbrev pub IsPrefixed : List ℕ → List ℕ → List ℕ → Type 0
IsPrefixed old new o = (a : List ℕ) × (b : List ℕ) × (o ≡ a ++ b) × (new ≡ old ++ a)

-- the elements of an array, one after the other
abbrev pub elements_of : Encoding → Array → ℕ → List ℤ → List ℕ
elements_of e a p ns = elements_octets (element_octets e a) p ns

-- elements, and what follows them
abbrev pub ended : Encoding → Array → ℕ → List ℤ → List ℕ
ended e a p ns = followed p (elements_of e a p ns) (λ q. replicate (trailing e a (length ns)) 0)

-- what gives the length, the elements, and what follows them
abbrev pub in_full : Encoding → Array → ℕ → List ℤ → List ℕ
in_full e a p ns = followed p (head_octets e a p (length ns)) (λ q. ended e a q ns)

-- the short descriptor of so many units of a kind, and the long one
abbrev pub short_octets : Kind → ℕ → List ℕ
short_octets k many = le 4 (short_word (unit_name (number k)) (unit_bits (number k)) many)

abbrev pub long_octets : Kind → ℕ → List ℕ
long_octets k many = le 4 long_mark ++ le 8 (long_words (unit_name (number k)) (unit_bits (number k)) many)

-- zeros up to the alignment, and a number's octets
abbrev pub aligned : Encoding → Scalar → ℕ → ℤ → List ℕ
aligned e s p n = followed p (replicate (gap p (alignment_of e s)) 0) (λ q. number_octets e (width_of e s) (residue (width_of e s) n))
