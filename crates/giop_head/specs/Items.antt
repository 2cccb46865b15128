-- What the fields of heads are made of (OMG CORBA, chapter GIOP, section on CDR: primitive types, strings, sequences).
use Rattle.std.specs.Prelude.{◌≡◌, ℕ, zero, suc, ◌+◌, ◌-◌, ◌<◌, min, List, [], ◌∷◌, ◌++◌, length, take, Bool, true, false, ◌==◌, if◌then◌else◌}
use Rattle.std.specs.Int.{w16, w32}
use Rattle.std.specs.List.{AllByRecursion}
use Rattle.wire_def.specs.declared.encoding.Encoding.{Encoding}
use Rattle.wire_def.specs.declared.encoding.Encoding.TheVariants.{CdrBig, CdrLittle}
use Rattle.wire_def.specs.declared.fault.FaultKind.{FaultKind}
use Rattle.wire_def.specs.declared.fault.HeadErr.{HeadErr}
use Rattle.wire_def.specs.declared.fault.HeadErr.TheVariants.{Short, Item, Text, Size}
use Rattle.wire_def.specs.declared.head.Order.{Order}
use Rattle.wire_def.specs.declared.head.Order.TheVariants.{Big, Little}
use Rattle.wire_def.specs.Grammar.{Reading, got, stop, Reader, Spelling, Stopping, map_got, both, tested, Parts, StopsInOrder, TestedSpells, TestedStops}
use Rattle.wire_def.specs.HeadItems.{BodySpells, BodyStops, read_body}
use Rattle.wire_def.specs.Scalars.{gap, WordSpells, read_word}
use Rattle.head_kit.specs.Words.{up_to}

-- how the octets of a message lie
abbrev pub laid : Order → Encoding
laid Big = CdrBig
laid Little = CdrLittle

-- ---- unsigned longs: four octets, the first at a multiple of 4, after octets of any content

-- an unsigned long and its number
abbrev pub LongSpells : Order → Spelling ℕ
LongSpells r = WordSpells (laid r) 4 w32

-- octets that end before the number does
abbrev pub LongStops : Stopping HeadErr
LongStops p o k at = (length o < gap p 4 + 4) × (k ≡ Short) × (at ≡ p + gap p 4)

-- what was read, or that it is cut off
abbrev pub or_short : {A : Type 0} → Reading FaultKind A → Reading HeadErr A
or_short (got x p o) = got x p o
or_short (stop k at) = stop Short at

-- an unsigned long, read from a position
unfoldable pub read_long : Order → Reader HeadErr ℕ
read_long r p o = or_short (read_word (laid r) 4 w32 p o)

-- where an unsigned long is
abbrev pub long_place : ℕ → ℕ
long_place p = p + gap p 4

-- a number up to the greatest that the field can have
abbrev pub PassSpells : Order → ℕ → Spelling ℕ
PassSpells r m = TestedSpells (LongSpells r) (up_to m)

-- a number that is cut off, or above the greatest
abbrev pub PassStops : Order → ℕ → Stopping HeadErr
PassStops r m = TestedStops (LongSpells r) LongStops (up_to m) Item long_place

-- a number up to the greatest, read from a position
abbrev pub read_pass : Order → ℕ → Reader HeadErr ℕ
read_pass r m = tested (read_long r) (up_to m) Item long_place

-- ---- unsigned shorts: two octets, the first at a multiple of 2, after an octet of any content

-- an unsigned short and its number
abbrev pub ShortSpells : Order → Spelling ℕ
ShortSpells r = WordSpells (laid r) 2 w16

-- octets that end before the number does
abbrev pub ShortStops : Stopping HeadErr
ShortStops p o k at = (length o < gap p 2 + 2) × (k ≡ Short) × (at ≡ p + gap p 2)

-- an unsigned short, read from a position
unfoldable pub read_short : Order → Reader HeadErr ℕ
read_short r p o = or_short (read_word (laid r) 2 w16 p o)

-- where an unsigned short is
abbrev pub short_place : ℕ → ℕ
short_place p = p + gap p 2

-- ---- booleans: an octet 0 or 1

-- the octet of a boolean
abbrev pub flag : Bool → ℕ
flag false = 0
flag true = 1

-- a boolean and its octet
abbrev pub FlagSpells : Spelling Bool
FlagSpells p o b = o ≡ flag b ∷ []

-- no octet, or one above 1
unfoldable pub FlagStops : Stopping HeadErr
FlagStops p [] k at = (k ≡ Short) × (at ≡ p)
FlagStops p (suc (suc b) ∷ o) k at = (k ≡ Item) × (at ≡ p)
FlagStops p (b ∷ o) k at = ⊥

-- a boolean, read from a position
unfoldable pub read_flag : Reader HeadErr Bool
read_flag p [] = stop Short p
read_flag p (zero ∷ o) = got false (p + 1) o
read_flag p (suc zero ∷ o) = got true (p + 1) o
read_flag p (suc (suc b) ∷ o) = stop Item p

-- ---- sequences of octets: their number, and they

-- a sequence and its octets
abbrev pub SequenceSpells : Order → Spelling (List ℕ)
SequenceSpells r p o s = Parts p o (λ a. LongSpells r p a (length s)) (λ q b. b ≡ s)

-- a sequence that is cut off
abbrev pub SequenceStops : Order → Stopping HeadErr
SequenceStops r = StopsInOrder (LongSpells r) LongStops BodyStops

-- a sequence, read from a position
unfoldable pub read_sequence : Order → Reader HeadErr (List ℕ)
read_sequence r p o = map_got (λ x. x.1) (both (read_long r) read_body p o)

-- ---- strings: the number of octets with the 0 at the end, the octets, the 0

-- octets of which none is 0
abbrev pub HasNoZero : List ℕ → Type 0
HasNoZero s = AllByRecursion (λ b. 0 < b) s

-- a string and its octets
abbrev pub StringSpells : Order → Spelling (List ℕ)
StringSpells r p o s = Parts p o (λ a. LongSpells r p a (suc (length s))) (λ q b. (b ≡ s ++ (0 ∷ [])) × HasNoZero s)

-- whether there is an octet 0 at the end, and no other
abbrev pub is_ended : List ℕ → Bool
is_ended [] = false
is_ended (zero ∷ []) = true
is_ended (zero ∷ (b ∷ o)) = false
is_ended (suc b ∷ o) = is_ended o

-- a string that is cut off, has no octets, no 0 at the end, or another 0
abbrev pub StringStops : Order → Stopping HeadErr
StringStops r = StopsInOrder (LongSpells r) LongStops (λ n. TestedStops (BodySpells n) (BodyStops n) is_ended Text (λ p. p))

-- a string without the 0 at its end, read from a position
unfoldable pub read_string : Order → Reader HeadErr (List ℕ)
read_string r p o = map_got (λ x. take (x.0 - 1) x.1) (both (read_long r) (λ n. tested (read_body n) is_ended Text (λ p. p)) p o)

-- ---- what leads up to a body, in a message of so many octets

-- how many octets take a position to a multiple of 8, or to the message's end where that comes first
abbrev pub padding : ℕ → ℕ → ℕ
padding n p = min (gap p 8) (n - p)

-- so many octets, whatever they are
abbrev pub PaddingSpells : ℕ → Spelling (Unit {0})
PaddingSpells n p o x = length o ≡ padding n p

-- fewer octets; where they are those of the message, none are lacking
abbrev pub PaddingStops : ℕ → Stopping HeadErr
PaddingStops n p o k at = BodyStops (padding n p) p o k at

-- what leads up to a body, passed over from a position
unfoldable pub pass_padding : ℕ → Reader HeadErr (Unit {0})
pass_padding n p o = map_got (λ s. tt) (read_body (padding n p) p o)

-- ---- the end of a message of so many octets

-- no octets, at the message's end
abbrev pub EndSpells : ℕ → Spelling (Unit {0})
EndSpells n p o x = (o ≡ []) × (p ≡ n)

-- a position that is not the message's end
abbrev pub EndStops : ℕ → Stopping HeadErr
EndStops n p o k at = ((p == n) ≡ false) × (k ≡ Size) × (at ≡ p)

-- the end, read from a position
abbrev pub read_end : ℕ → Reader HeadErr (Unit {0})
read_end n p o = if p == n then got tt p o else stop Size p
