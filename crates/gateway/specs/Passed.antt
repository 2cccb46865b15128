-- What is passed on.
use Rattle.std.specs.Prelude.{◌≡◌, ℕ, Option, Some}
use Rattle.mint.specs.Values.{Val}
use Rattle.wire_def.specs.declared.head.Head.{Head}
use Rattle.gateway.specs.declared.errors.PassErr.{PassErr}
use Rattle.gateway.specs.declared.errors.PassErr.TheVariants as pass
use Rattle.gateway.specs.declared.errors.WriteErr.{WriteErr}
use Rattle.gateway.specs.declared.errors.WriteErr.TheVariants as write

-- why a request that is not written is not passed on
abbrev pub passed_on : {X : Type 0} → WriteErr → PassErr X
passed_on write.Long = pass.Long
passed_on write.NoMemory = pass.NoMemory

-- a request is asked for, and this holds of it
abbrev pub ForAsked : (ℕ → Head → Val → Type 0) → (ℕ → Head → Val → Type 0) → Type 0
ForAsked Asks Holds = (op : ℕ) × (head : Head) × (v : Val) × Asks op head v × Holds op head v

-- a request is asked for and has a pair, and this holds of the pair's operation and head, and of the request's value
abbrev pub ForPaired : (ℕ → Head → Val → Type 0) → (ℕ → Head → Option (ℕ × Head)) → (ℕ → Head → Val → Type 0) → Type 0
ForPaired Asks paired Holds = ForAsked Asks (λ op head v.
    (other : ℕ) × (its : Head) × (paired op head ≡ Some (other, its)) × Holds other its v)
