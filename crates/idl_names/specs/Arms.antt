-- The arms of unions.
use Rattle.std.specs.Prelude.{ℤ, List, ◌++◌, map, length, drop}
use Rattle.aoi.specs.declared.types.Ty.{Ty}
use Rattle.aoi.specs.Shapes.{Shape, seen}

-- an arm for each of the numbers
abbrev pub arms_for : Shape → List ℤ → List (ℤ × Shape)
arms_for s numbers = map (λ n. (n, s)) numbers

-- an arm for each label that has none
abbrev pub with_arm : List ℤ → List (ℤ × Shape) → Shape → List (ℤ × Shape)
with_arm numbers arms s = arms ++ arms_for s (drop (length arms) numbers)

-- arms with the plain trees of their types
abbrev pub arms_held : List (ℤ × Ty) → List (ℤ × Shape)
arms_held arms = map (λ a. (a.0, seen a.1)) arms
