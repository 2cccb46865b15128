-- Units as lists, and which interfaces they take.
use Rattle.std.specs.Prelude.{Bool, ◌&&◌, ◌||◌, ◌==◌, ◌≤◌, ◌≡◌, false, ℕ, List, [], ◌∷◌, length}
use Rattle.std.specs.List.{list_any}
use Rattle.std.specs.Str.{bytes_eq}
use Rattle.kit_base.specs.Limits.{most_operations}
use Rattle.aoi.specs.declared.types.Ty.{Ty}
use Rattle.aoi.specs.declared.interfaces.Interface.{Interface}

-- the types of a unit, each with its name, and its interfaces
pub record Parts : Type 0 where
  pub types : List (List ℕ × Ty)
  pub interfaces : List Interface

-- an interface and a later one, of one name, or of one program and version
abbrev pub are_twins : Interface → Interface → Bool
are_twins i j = bytes_eq i.name j.name || (i.program == j.program && i.version == j.version)

-- an interface that has a twin among earlier ones
abbrev pub is_twice : Interface → List Interface → Bool
is_twice i others = list_any (λ j. are_twins j i) others

-- interfaces of which no two are twins, each with at most 256 operations
abbrev pub AreApart : List Interface → Type 0
AreApart [] = Unit {0}
AreApart (i ∷ is) = (list_any (are_twins i) is ≡ false) × (length i.ops ≤ most_operations) × AreApart is
