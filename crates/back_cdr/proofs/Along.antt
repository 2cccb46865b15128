-- Octets that are known by another name.
use Rattle.std.proofs.Common.{◌≡◌, ◌∙◌, ℕ, List}
use Rattle.std.specs.Prelude.{Result, Ok, Err, IfOk}
use Rattle.kit_base.specs.declared.errors.NoMemory.{NoMemory}

pub octets_along : (d : Result (List ℕ) NoMemory) (x y : List ℕ) → x ≡ y → IfOk d (λ o. o ≡ x) → IfOk d (λ o. o ≡ y)
octets_along (Ok o) x y same is = is ∙ same
octets_along (Err e) x y same is = tt
