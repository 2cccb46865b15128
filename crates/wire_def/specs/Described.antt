-- Descriptors before the rows and texts of Mach messages, in their two forms.
use Rattle.std.specs.Prelude.{◌≡◌, ◌⊎◌, ℕ, ◌+◌, ◌*◌, ◌-◌, ◌/◌, ◌%◌, ◌^◌, List, [], ◌++◌, Bool, true, false, ◌&&◌, IsTrue, MatchBool, nat_lt, nat_le, nat_eq, if◌then◌else◌}
use Rattle.std.specs.Int.{w32, w64}
use Rattle.kit_base.specs.Bytes.{le}
use Rattle.mint.specs.declared.kind.Kind.TheVariants as kind
use Rattle.mint.specs.declared.kind.Count.{Count}
use Rattle.mint.specs.declared.kind.Count.TheVariants.{Exactly, AtMost, Any}
use Rattle.mint.specs.Types.{Scalar, number}
use Rattle.wire_def.specs.declared.encoding.Encoding.TheVariants.{Mach}
use Rattle.wire_def.specs.declared.fault.FaultKind.{FaultKind}
use Rattle.wire_def.specs.declared.fault.FaultKind.TheVariants.{OverBound, BadItem}
use Rattle.wire_def.specs.Grammar.{Reading, got, stop, Reader, Spelling, Stopping, map_got, both, tested, Parts}
use Rattle.wire_def.specs.Scalars.{WordSpells, WordStops, read_word}
use Rattle.wire_def.specs.Lone.{unit_name, unit_bits, units_of, short_word}

-- whether a count allows so many
abbrev pub allowed : Count → ℕ → Bool
allowed (Exactly m) n = nat_eq n m
allowed (AtMost m) n = nat_le n m
allowed Any n = true

-- ---- what is sent

-- the units of the longest array with a short descriptor
abbrev pub most_units : ℕ
most_units = 4095

-- whether an array has a long descriptor: where its count allows more units
abbrev pub is_long : Count → Scalar → Bool
is_long (Exactly m) s = nat_lt most_units (m * units_of s)
is_long (AtMost m) s = nat_lt most_units (m * units_of s)
is_long Any s = true

-- the first word of a long descriptor, as it is sent; of one that is read the low 28 bits are not looked at
abbrev pub long_mark : ℕ
long_mark = 2 ^ 28 + 2 ^ 29

-- name, bits and number of units, as the long form has them
abbrev pub long_words : ℕ → ℕ → ℕ → ℕ
long_words name bits many = name + 65536 * bits + 2 ^ 32 * many

-- the descriptor of n elements
unfoldable pub described_octets : Count → Scalar → ℕ → List ℕ
described_octets c s n =
    if is_long c s then le 4 long_mark ++ le 8 (long_words (unit_name s) (unit_bits s) (n * units_of s))
    else le 4 (short_word (unit_name s) (unit_bits s) (n * units_of s))

-- ---- what is read

-- whether a first word is of the long form: bits 28 and 29 alone of the highest four
abbrev pub is_marked : ℕ → Bool
is_marked m = nat_eq (m / 2 ^ 28) 3

-- whether the form, long or short, may be there: for a fixed length only the one that is sent
abbrev pub takes : Count → Scalar → Bool → Bool
takes (Exactly m) s true = nat_lt most_units (m * units_of s)
takes (Exactly m) s false = nat_le (m * units_of s) most_units
takes _ s long = true

-- a first word of a form that may be there
abbrev pub has_form : Count → Scalar → ℕ → Bool
has_form c s m = if is_marked m then takes c s true else nat_eq (m / 2 ^ 28) 1 && takes c s false

-- what a short descriptor says, as the long form has it
abbrev pub widened : ℕ → ℕ
widened m = long_words (m % 256) (m / 256 % 256) (m / 65536 % 4096)

-- whether so many units are whole elements
abbrev pub is_whole : Scalar → ℕ → Bool
is_whole (number kind.I64) k = nat_eq (k % 2) 0
is_whole (number kind.U64) k = nat_eq (k % 2) 0
is_whole _ k = true

-- how many elements they are
abbrev pub elements_in : Scalar → ℕ → ℕ
elements_in (number kind.I64) k = k / 2
elements_in (number kind.U64) k = k / 2
elements_in _ k = k

-- whether a number of units is that of the fixed length, if the length is fixed
abbrev pub is_fixed : Count → Scalar → ℕ → Bool
is_fixed (Exactly m) s k = nat_eq k (m * units_of s)
is_fixed _ s k = true

-- the element's name and bits, and a number that may be there
abbrev pub is_right : Count → Scalar → ℕ → Bool
is_right c s d = nat_eq (d % 2 ^ 32) (long_words (unit_name s) (unit_bits s) 0) && (is_whole s (d / 2 ^ 32) && is_fixed c s (d / 2 ^ 32))

-- what was read, but with its fault placed at p
unfoldable pub reported_before : {A : Type 0} → ℕ → Reading FaultKind A → Reading FaultKind A
reported_before p (got x q o) = got x q o
reported_before p (stop k at) = stop k p

-- the first word
unfoldable pub FirstSpells : Count → Scalar → Spelling ℕ
FirstSpells c s p o m = WordSpells Mach 1 w32 p o m × IsTrue (has_form c s m)

unfoldable pub FirstStops : Count → Scalar → Stopping FaultKind
FirstStops c s p o k at = WordStops Mach 1 w32 p o k at
    ⊎ ((m : ℕ) × Parts p o (λ a. WordSpells Mach 1 w32 p a m) (λ q b. (has_form c s m ≡ false) × (k ≡ BadItem) × (at ≡ p)))

unfoldable pub read_first : Count → Scalar → Reader FaultKind ℕ
read_first c s = tested (read_word Mach 1 w32) (has_form c s) BadItem (λ p. p)

-- what the descriptor says: after a marked word 8 octets, else nothing more
unfoldable pub RestSpells : ℕ → Spelling ℕ
RestSpells m p o d = MatchBool (is_marked m) (WordSpells Mach 1 w64 p o d) ((o ≡ []) × (widened m ≡ d))

unfoldable pub RestStops : ℕ → Stopping FaultKind
RestStops m p o k at = MatchBool (is_marked m) ((place : ℕ) × WordStops Mach 1 w64 p o k place × (at ≡ p - 4)) ⊥

unfoldable pub read_rest : ℕ → Reader FaultKind ℕ
read_rest m p o = if is_marked m then reported_before (p - 4) (read_word Mach 1 w64 p o) else got (widened m) p o

-- a descriptor in a form that may be there, and what it says
abbrev pub FormSpells : Count → Scalar → Spelling (ℕ × ℕ)
FormSpells c s p o x = Parts p o (λ a. FirstSpells c s p a x.0) (λ q b. RestSpells x.0 q b x.1)

abbrev pub FormStops : Count → Scalar → Stopping FaultKind
FormStops c s p o k at = FirstStops c s p o k at ⊎ ((m : ℕ) × Parts p o (λ a. FirstSpells c s p a m) (λ q b. RestStops m q b k at))

-- so many elements, whatever the bound
abbrev pub ManySpell : Count → Scalar → Spelling ℕ
ManySpell c s p o n = (x : ℕ × ℕ) × (elements_in s (x.1 / 2 ^ 32) ≡ n) × FormSpells c s p o x × IsTrue (is_right c s x.1)

-- a descriptor that says how many elements there are
unfoldable pub DescribedSpells : Count → Scalar → Spelling ℕ
DescribedSpells c s p o n = ManySpell c s p o n × IsTrue (allowed c n)

-- cut off, of another form, of another element or number, or above the bound
unfoldable pub DescribedStops : Count → Scalar → Stopping FaultKind
DescribedStops c s p o k at =
    (FormStops c s p o k at
    ⊎ ((x : ℕ × ℕ) × Parts p o (λ a. FormSpells c s p a x) (λ q b. (is_right c s x.1 ≡ false) × (k ≡ BadItem) × (at ≡ p))))
    ⊎ ((n : ℕ) × Parts p o (λ a. ManySpell c s p a n) (λ q b. (allowed c n ≡ false) × (k ≡ OverBound) × (at ≡ p)))

unfoldable pub read_described : Count → Scalar → Reader FaultKind ℕ
read_described c s = tested
    (λ q b. map_got (λ x. elements_in s (x.1 / 2 ^ 32))
    (tested (both (read_first c s) read_rest) (λ x. is_right c s x.1) BadItem (λ p. p) q b))
    (allowed c) OverBound (λ p. p)
