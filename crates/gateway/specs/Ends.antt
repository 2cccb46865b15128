-- What two ends say of octets.
use Rattle.std.specs.Prelude.{◌≡◌, ℕ, List}
use Rattle.mint.specs.Values.{Val, seen}
use Rattle.wire_def.specs.declared.head.Head.{Head}
use Rattle.gateway.specs.declared.ends.Asked.{Asked}
use Rattle.gateway.specs.declared.ends.Asked.TheVariants.{Request, Refused}

-- this holds of a request, where there is one
abbrev pub IfRequest : {X : Type 0} → Asked X → (ℕ → Head → Val → Type 0) → Type 0
IfRequest (Request op head value) Holds = Holds op head (seen value)
IfRequest (Refused x) Holds = Unit {0}

-- this holds of the reason why there is no request, where there is none
abbrev pub IfRefused : {X : Type 0} → Asked X → (X → Type 0) → Type 0
IfRefused (Request op head value) Holds = Unit {0}
IfRefused (Refused x) Holds = Holds x

-- octets ask for one request at most, or are declined for one reason at most, and never both
pub record AtMostOne {S X : Type 0} (Asks : S → List ℕ → ℕ → Head → Val → Type 0) (Declines : S → List ℕ → X → Type 0) : Type 0 where
  pub request : (s : S) (octets : List ℕ) (op other : ℕ) (head its : Head) (v w : Val)
      → Asks s octets op head v → Asks s octets other its w → (op ≡ other) × (head ≡ its) × (v ≡ w)
  pub reason : (s : S) (octets : List ℕ) (x y : X) → Declines s octets x → Declines s octets y → x ≡ y
  pub apart : (s : S) (octets : List ℕ) (op : ℕ) (head : Head) (v : Val) (x : X)
      → Asks s octets op head v → Declines s octets x → ⊥
