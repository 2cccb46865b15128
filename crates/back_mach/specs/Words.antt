-- The words that heads are made of: four octets, the least significant first.
use Rattle.std.specs.Prelude.{ℕ, List, flat_map, Bool}
use Rattle.wire_def.specs.declared.fault.HeadErr.{HeadErr}
use Rattle.wire_def.specs.declared.head.Order.TheVariants.{Little}
use Rattle.wire_def.specs.Grammar.{Reader, Spelling, Stopping}
use Rattle.head_kit.specs.Words as kit

-- the octets of a word
abbrev pub word : ℕ → List ℕ
word = kit.word Little

-- the octets of words, one after the other
abbrev pub words : List ℕ → List ℕ
words numbers = flat_map word numbers

-- a word and its number
abbrev pub WordSpells : Spelling ℕ
WordSpells = kit.WordSpells Little

-- the number of the first four octets
abbrev pub read_word : Reader HeadErr ℕ
read_word = kit.read_word Little

-- a word that passes a test
abbrev pub PassSpells : (ℕ → Bool) → Spelling ℕ
PassSpells = kit.PassSpells Little

-- a word that is cut off, or does not pass, which is this fault
abbrev pub PassStops : (ℕ → Bool) → HeadErr → Stopping HeadErr
PassStops = kit.PassStops Little

-- the number of a word that passes, or the fault
abbrev pub read_pass : (ℕ → Bool) → HeadErr → Reader HeadErr ℕ
read_pass = kit.read_pass Little
