-- Scalars that travel by themselves: over XDR and CDR their octets, in Mach messages items after descriptors.
use Rattle.std.specs.Prelude.{◌≡◌, ◌⊎◌, ℕ, ◌+◌, ◌*◌, ◌^◌, ◌<◌, ℤ, List, ◌++◌, length, drop, replicate, Bool, false, nat_lt, nat_eq, if◌then◌else◌}
use Rattle.std.specs.Int.{w32, byte_len}
use Rattle.kit_base.specs.Bytes.{le}
use Rattle.mint.specs.declared.kind.Kind.TheVariants as kind
use Rattle.mint.specs.Types.{Scalar, number}
use Rattle.wire_def.specs.declared.encoding.Encoding.{Encoding}
use Rattle.wire_def.specs.declared.encoding.Encoding.TheVariants.{Mach}
use Rattle.wire_def.specs.declared.fault.FaultKind.{FaultKind}
use Rattle.wire_def.specs.declared.fault.FaultKind.TheVariants.{Short, BadItem}
use Rattle.wire_def.specs.Grammar.{got, stop, Reader, Spelling, Stopping, map_got, both, tested, Parts, TestedSpells, TestedStops}
use Rattle.wire_def.specs.Scalars.{gap, width_of, scalar_octets, scalar_place, WordSpells, WordStops, read_word, ScalarSpells, ScalarStops, read_scalar}

-- an encoding without descriptors
abbrev pub IsPlain : Encoding → Type 0
IsPlain Mach = ⊥
IsPlain _ = Unit {0}

-- ---- octets that may be anything

-- so many octets
abbrev pub AnySpell : ℕ → Spelling (Unit {0})
AnySpell n p o x = length o ≡ n

-- fewer octets than so many; the fault is placed where they end
abbrev pub AnyStop : ℕ → Stopping FaultKind
AnyStop n p o k at = (length o < n) × (k ≡ Short) × (at ≡ p + length o)

-- so many octets, passed over
unfoldable pub read_any : ℕ → Reader FaultKind (Unit {0})
read_any n p o = if nat_lt (length o) n then stop Short (p + length o) else got tt (p + n) (drop n o)

-- ---- descriptors of Mach messages

-- the name of a scalar's units
abbrev pub unit_name : Scalar → ℕ
unit_name (number kind.Octet) = 9
unit_name (number kind.I8) = 9
unit_name (number kind.U8) = 9
unit_name (number kind.Char) = 8
unit_name (number kind.I16) = 1
unit_name (number kind.U16) = 1
unit_name _ = 2

-- how many bits a unit has
abbrev pub unit_bits : Scalar → ℕ
unit_bits (number kind.Octet) = 8
unit_bits (number kind.I8) = 8
unit_bits (number kind.U8) = 8
unit_bits (number kind.Char) = 8
unit_bits (number kind.I16) = 16
unit_bits (number kind.U16) = 16
unit_bits _ = 32

-- how many units a number has
abbrev pub units_of : Scalar → ℕ
units_of (number kind.I64) = 2
units_of (number kind.U64) = 2
units_of _ = 1

-- a short descriptor: inline, of so many units
abbrev pub short_word : ℕ → ℕ → ℕ → ℕ
short_word name bits many = name + 256 * bits + 65536 * many + 2 ^ 28

-- the descriptor of a scalar
abbrev pub scalar_word : Scalar → ℕ
scalar_word s = short_word (unit_name s) (unit_bits s) (units_of s)

-- this descriptor
abbrev pub DescSpells : ℕ → Spelling (Unit {0})
DescSpells w p o x = WordSpells Mach 1 w32 p o w

-- a descriptor that is cut off, or another one
unfoldable pub DescStops : ℕ → Stopping FaultKind
DescStops w p o k at = WordStops Mach 1 w32 p o k at
    ⊎ ((m : ℕ) × Parts p o (λ a. WordSpells Mach 1 w32 p a m) (λ q b. (nat_eq m w ≡ false) × (k ≡ BadItem) × (at ≡ p)))

-- this descriptor, read from a position
unfoldable pub read_desc : ℕ → Reader FaultKind (Unit {0})
read_desc w p o = map_got (λ m. tt) (tested (read_word Mach 1 w32) (λ m. nat_eq m w) BadItem (λ q. q) p o)

-- ---- items: a descriptor, what it describes, and octets up to a multiple of 4

-- how many octets fill the item of a scalar up to a multiple of 4
abbrev pub filling : Scalar → ℕ
filling s = gap (byte_len (width_of Mach s)) 4

abbrev pub item_octets : Scalar → (ℕ → List ℕ) → ℕ → List ℕ
item_octets s inside p = le 4 (scalar_word s) ++ (inside (p + 4) ++ replicate (filling s) 0)

abbrev pub ItemSpells : {A : Type 0} → Scalar → Spelling A → Spelling A
ItemSpells s S p o x = Parts p o (λ a. DescSpells (scalar_word s) p a tt)
    (λ q b. Parts q b (λ c. S q c x) (λ r d. AnySpell (filling s) r d tt))

abbrev pub ItemStops : {A : Type 0} → Scalar → Spelling A → Stopping FaultKind → Stopping FaultKind
ItemStops {A} s S F p o k at = DescStops (scalar_word s) p o k at
    ⊎ ((x : Unit {0}) × Parts p o (λ a. DescSpells (scalar_word s) p a x)
    (λ q b. F q b k at ⊎ ((y : A) × Parts q b (λ c. S q c y) (λ r d. AnyStop (filling s) r d k at))))

abbrev pub read_item : {A : Type 0} → Scalar → Reader FaultKind A → Reader FaultKind A
read_item s r p o = map_got (λ x. x.1.0) (both (read_desc (scalar_word s)) (λ _. both r (λ _. read_any (filling s))) p o)

-- ---- a scalar by itself, which passes a test besides

abbrev pub lone_octets : Encoding → Scalar → ℕ → ℤ → List ℕ
lone_octets Mach s p n = item_octets s (λ q. scalar_octets Mach s q n) p
lone_octets e s p n = scalar_octets e s p n

-- the place of the scalar itself
abbrev pub lone_place : Encoding → Scalar → ℕ → ℕ
lone_place Mach s p = p + 4
lone_place e s p = scalar_place e s p

abbrev pub LoneSpells : Encoding → Scalar → Spelling ℤ
LoneSpells Mach s = ItemSpells s (ScalarSpells Mach s)
LoneSpells e s = ScalarSpells e s

abbrev pub LoneStops : Encoding → Scalar → Stopping FaultKind
LoneStops Mach s = ItemStops s (ScalarSpells Mach s) (ScalarStops Mach s)
LoneStops e s = ScalarStops e s

abbrev pub read_lone : Encoding → Scalar → Reader FaultKind ℤ
read_lone Mach s = read_item s (read_scalar Mach s)
read_lone e s = read_scalar e s

-- ---- a scalar by itself whose number passes a test; in an item the test comes before what fills it up

abbrev pub PassSpells : Encoding → Scalar → (ℤ → Bool) → Spelling ℤ
PassSpells e s test = TestedSpells (LoneSpells e s) test

-- a scalar that stops, or does not pass
abbrev pub TestStops : Encoding → Scalar → (ℤ → Bool) → FaultKind → Stopping FaultKind
TestStops e s test fault = TestedStops (ScalarSpells e s) (ScalarStops e s) test fault (scalar_place e s)

abbrev pub PassStops : Encoding → Scalar → (ℤ → Bool) → FaultKind → Stopping FaultKind
PassStops Mach s test fault = ItemStops s (TestedSpells (ScalarSpells Mach s) test) (TestStops Mach s test fault)
PassStops e s test fault = TestStops e s test fault

abbrev pub read_pass : Encoding → Scalar → (ℤ → Bool) → FaultKind → Reader FaultKind ℤ
read_pass Mach s test fault = read_item s (tested (read_scalar Mach s) test fault (scalar_place Mach s))
read_pass e s test fault = tested (read_scalar e s) test fault (scalar_place e s)
