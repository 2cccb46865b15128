-- What a reader of JSON gives.
use Rattle.std.specs.Prelude.{◌≡◌, ℤ, List, Option, Some, None, Result, Ok, Err}
use Rattle.mint.specs.declared.kind.Kind.{Kind}
use Rattle.mint.specs.Row.{Numbers}
use Rattle.json_shape.specs.declared.errors.ShapeErr.{ShapeErr}
use Rattle.json_shape.specs.declared.errors.ShapeErr.TheVariants as errors

-- what was given, seen by view, is what there is, unless memory ran out
abbrev pub Gives : {X A : Type 0} → (X → A) → Result X ShapeErr → Option A → Type 0
Gives view (Ok x) there = there ≡ Some (view x)
Gives view (Err errors.Shape) there = there ≡ None
Gives view (Err errors.NoMemory) there = Unit {0}

-- a row of the kind was given, and its numbers are what there is, unless memory ran out
abbrev pub GivesRow : Kind → Result Numbers ShapeErr → Option (List ℤ) → Type 0
GivesRow k (Ok r) there = (r.kind ≡ k) × (there ≡ Some r.numbers)
GivesRow k (Err errors.Shape) there = there ≡ None
GivesRow k (Err errors.NoMemory) there = Unit {0}
