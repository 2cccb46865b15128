-- Laws of the byte grammars.
use Rattle.std.specs.Prelude.{◌≡◌, ◌≢◌, ◌⊎◌, ◌↔◌, ℕ, ◌+◌, ◌*◌, ◌≤◌, List, [], ◌++◌, length, take}
use Rattle.kit_base.specs.Limits.{longest_message}
use Rattle.mint.specs.Values.{Val, weight}
use Rattle.mint.specs.Types.{Ty}
use Rattle.mint.specs.Sound.{IsSound}
use Rattle.mint.specs.Typed.{IsOf, IsWellTyped}
use Rattle.wire_def.specs.declared.encoding.Encoding.{Encoding}
use Rattle.wire_def.specs.declared.encoding.Encoding.TheVariants.{Mach}
use Rattle.wire_def.specs.declared.fault.FaultKind.{FaultKind}
use Rattle.wire_def.specs.Grammar.{AreOctets, IsGrammar}
use Rattle.wire_def.specs.Lone.{IsPlain}
use Rattle.wire_def.specs.Send.{send}
use Rattle.wire_def.specs.Spells.{Spells, IsSpelling}
use Rattle.wire_def.specs.Stops.{Stops}
use Rattle.wire_def.specs.Reading.{read}

-- an encoding has no descriptors exactly where it is not that of Mach messages
abbrev pub PlainIsNotMach : Encoding → Type 0
PlainIsNotMach e = IsPlain e ↔ (e ≢ Mach)

-- the first octets, so many, spell the value from the position
pub record BeginsWith (e : Encoding) (t : Ty) (p : ℕ) (o : List ℕ) (v : Val) (used : ℕ) : Type 0 where
  pub there : used ≤ length o
  pub spelled : IsSpelling e t p (take used o) v

-- what is sent of a well-typed value is a spelling of it
abbrev pub SentSpells : Encoding → Type 0
SentSpells e = (t : Ty) (p : ℕ) (v : Val) → IsWellTyped t v → IsSpelling e t p (send e t p v) v

-- what is sent has at most 16 times the value's weight in octets
abbrev pub SentIsShort : Encoding → Type 0
SentIsShort e = (t : Ty) (p : ℕ) (v : Val) → length (send e t p v) ≤ 16 * weight v

-- octets spell at most one value
abbrev pub OneValue : Encoding → Type 0
OneValue e = (t : Ty) (p : ℕ) (o : List ℕ) (v w : Val) → IsSpelling e t p o v → IsSpelling e t p o w → v ≡ w

-- no spelling is a proper prefix of another one of the same type at the same position
abbrev pub NoneBegins : Encoding → Type 0
NoneBegins e = (t : Ty) (p : ℕ) (a b : List ℕ) (v w : Val) → IsSpelling e t p a v → IsSpelling e t p (a ++ b) w → b ≡ []

-- some prefix spells a value
abbrev pub BeginsSpelled : Encoding → Ty → ℕ → List ℕ → Type 0
BeginsSpelled e t p o = (a : List ℕ) × (b : List ℕ) × (v : Val) × (o ≡ a ++ b) × IsSpelling e t p a v

-- there is a first fault
abbrev pub HasFault : Encoding → Ty → ℕ → List ℕ → Type 0
HasFault e t p o = (k : FaultKind) × (at : ℕ) × Stops e t p o k at

-- one of the two and not the other, and the fault and its place are determined
pub record IsDecided (e : Encoding) (t : Ty) (p : ℕ) (o : List ℕ) : Type 0 where
  pub either : BeginsSpelled e t p o ⊎ HasFault e t p o
  pub not_both : BeginsSpelled e t p o → HasFault e t p o → ⊥
  pub one_fault : (k l : FaultKind) (at place : ℕ) → Stops e t p o k at → Stops e t p o l place → (k ≡ l) × (at ≡ place)

-- this decision, for the octets from a position of a message of at most 4,194,304 octets
abbrev pub SpelledOrStopped : Encoding → Type 0
SpelledOrStopped e = (t : Ty) → IsSound t → (p : ℕ) (o : List ℕ) → AreOctets o → p + length o ≤ longest_message → IsDecided e t p o

-- octets that are a value make it one of the type
abbrev pub SpelledIsTyped : Encoding → Type 0
SpelledIsTyped e = (t : Ty) (p : ℕ) (o : List ℕ) (v : Val) → AreOctets o → Spells e t p o v → IsOf t v

-- a body that a message can hold has no value above this weight
abbrev pub BodiesAreLight : Encoding → Type 0
BodiesAreLight e = (t : Ty) → IsSound t → (p : ℕ) (o : List ℕ) (v : Val) → length o ≤ longest_message → Spells e t p o v
    → weight v ≤ 138412032

-- what is read is spelled, and where reading stops there is the fault
abbrev pub ReadingIsGrammar : Encoding → Type 0
ReadingIsGrammar e = (t : Ty) → IsGrammar (read e t) (Spells e t) (Stops e t)
