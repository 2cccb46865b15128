-- Lists whose entries have numbers.
use Rattle.std.specs.Prelude.{◌≡◌, true, Bool, ℕ, ℤ, List, [], ◌∷◌, map, Option, int_lt}
use Rattle.std.specs.List.{AllByRecursion, position_from}
use Rattle.std.specs.Ordering.{int_eq}

-- numbers each of which is above those before it
abbrev pub Rise : List ℤ → Type 0
Rise [] = Unit {0}
Rise (n ∷ ns) = AllByRecursion (λ m. int_lt n m ≡ true) ns × Rise ns

-- a mark of a list that is true only where its numbers rise
abbrev pub IsMark : Bool → List ℤ → Type 0
IsMark rising ns = rising ≡ true → Rise ns

-- the place of the first entry that has a number
abbrev pub place_of : {T : Type 0} → ℤ → List (ℤ × T) → Option ℕ
place_of n entries = position_from (λ e. int_eq n e.0) 0 entries
