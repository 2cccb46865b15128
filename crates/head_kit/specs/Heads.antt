-- The heads of messages, over any format of theirs.
use Rattle.std.specs.Prelude.{◌≡◌, ◌⊎◌, ℕ, ◌≤◌, List, length, take}
use Rattle.wire_def.specs.declared.fault.HeadErr.{HeadErr}
use Rattle.wire_def.specs.Grammar.{Reader, Spelling, Stopping, IsGrammar}

-- a format of heads: reading a head from left to right, the octets that are one, and the first item that is cut off or wrong
pub record Format (A : Type 0) : Type 1 where
  pub read : Reader HeadErr A
  pub Spells : Spelling A
  pub Stops : Stopping HeadErr

-- what is read is spelled, and where reading stops there is the fault
abbrev pub IsRead : {A : Type 0} → Format A → Type 0
IsRead f = IsGrammar f.read f.Spells f.Stops

-- the first octets of a message, so many, are this head
abbrev pub BeginsWith : {A : Type 0} → Format A → List ℕ → A → ℕ → Type 0
BeginsWith f message h used = (used ≤ length message) × f.Spells 0 (take used message) h

-- a message stops with this fault, at some place
abbrev pub StopsWith : {A : Type 0} → Format A → List ℕ → HeadErr → Type 0
StopsWith f message e = (at : ℕ) × f.Stops 0 message e at

-- a message begins with a head, of which, and of its length, this is reported
abbrev pub Begins : {A B : Type 0} → Format A → (A → ℕ → B) → List ℕ → B → Type 0
Begins {A} {B} f view message reported = (h : A) × (used : ℕ) × BeginsWith f message h used × (view h used ≡ reported)

-- a message begins with a head or stops with a fault, one of the two, and which head and which fault is determined
pub record IsDecided {A : Type 0} (f : Format A) (message : List ℕ) : Type 0 where
  pub either : ((h : A) × (used : ℕ) × BeginsWith f message h used) ⊎ ((e : HeadErr) × StopsWith f message e)
  pub not_both : (h : A) (used : ℕ) (e : HeadErr) → BeginsWith f message h used → StopsWith f message e → ⊥
  pub one_head : (h j : A) (used m : ℕ) → BeginsWith f message h used → BeginsWith f message j m → (h ≡ j) × (used ≡ m)
  pub one_fault : (d e : HeadErr) → StopsWith f message d → StopsWith f message e → d ≡ e
