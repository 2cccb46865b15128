-- The words that heads are made of: four octets, the most significant first (RFC 4506, section 4.2).
use Rattle.std.specs.Prelude.{ℕ, List, Bool}
use Rattle.wire_def.specs.declared.fault.HeadErr.{HeadErr}
use Rattle.wire_def.specs.declared.head.Order.TheVariants.{Big}
use Rattle.wire_def.specs.Grammar.{Reader, Spelling, Stopping}
use Rattle.head_kit.specs.Words as kit

-- the octets of a word
abbrev pub word : ℕ → List ℕ
word = kit.word Big

-- a word and its number
abbrev pub WordSpells : Spelling ℕ
WordSpells = kit.WordSpells Big

-- the number of the first four octets
abbrev pub read_word : Reader HeadErr ℕ
read_word = kit.read_word Big

-- a word that passes a test
abbrev pub PassSpells : (ℕ → Bool) → Spelling ℕ
PassSpells = kit.PassSpells Big

-- a word that is cut off, or does not pass, which is this fault
abbrev pub PassStops : (ℕ → Bool) → HeadErr → Stopping HeadErr
PassStops = kit.PassStops Big

-- the number of a word that passes, or the fault
abbrev pub read_pass : (ℕ → Bool) → HeadErr → Reader HeadErr ℕ
read_pass = kit.read_pass Big
