-- The words that heads are made of, in either order of octets.
use Rattle.std.specs.Prelude.{◌≡◌, ℕ, ◌+◌, ◌^◌, ◌<◌, List, length, take, drop, Bool, ◌==◌, nat_lt, nat_le, if◌then◌else◌}
use Rattle.std.specs.Int.{w32, from_be_bytes, from_le_bytes}
use Rattle.kit_base.specs.Bytes.{be, le}
use Rattle.wire_def.specs.declared.fault.HeadErr.{HeadErr}
use Rattle.wire_def.specs.declared.fault.HeadErr.TheVariants.{Short}
use Rattle.wire_def.specs.declared.head.Order.{Order}
use Rattle.wire_def.specs.declared.head.Order.TheVariants.{Big, Little}
use Rattle.wire_def.specs.Grammar.{got, stop, Reader, Spelling, Stopping, tested, TestedSpells, TestedStops}

-- the octets of a word: four, the most significant first, or the least
abbrev pub word : Order → ℕ → List ℕ
word Big n = be 4 n
word Little n = le 4 n

-- the number of four octets
abbrev pub number : Order → List ℕ → ℕ
number Big o = from_be_bytes w32 o
number Little o = from_le_bytes w32 o

-- a number that a word can hold
abbrev pub IsWord : ℕ → Type 0
IsWord n = n < 2 ^ 32

-- a word and its number
unfoldable pub WordSpells : Order → Spelling ℕ
WordSpells r p o n = (o ≡ word r n) × IsWord n

-- fewer octets than a word has
unfoldable pub WordStops : Stopping HeadErr
WordStops p o k at = (length o < 4) × (k ≡ Short) × (at ≡ p)

-- the number of the first four octets
unfoldable pub read_word : Order → Reader HeadErr ℕ
read_word r p o = if nat_lt (length o) 4 then stop Short p else got (number r (take 4 o)) (p + 4) (drop 4 o)

-- ---- words that must pass a test

-- this number alone
abbrev pub only : ℕ → ℕ → Bool
only m n = n == m

-- the numbers up to this one
abbrev pub up_to : ℕ → ℕ → Bool
up_to m n = nat_le n m

-- a word that passes
abbrev pub PassSpells : Order → (ℕ → Bool) → Spelling ℕ
PassSpells r test = TestedSpells (WordSpells r) test

-- a word that is cut off, or does not pass, which is this fault
abbrev pub PassStops : Order → (ℕ → Bool) → HeadErr → Stopping HeadErr
PassStops r test fault = TestedStops (WordSpells r) WordStops test fault (λ p. p)

-- the number of a word that passes, or the fault
abbrev pub read_pass : Order → (ℕ → Bool) → HeadErr → Reader HeadErr ℕ
read_pass r test fault = tested (read_word r) test fault (λ p. p)
