-- The operations of a binding, as its unit has them.
use Rattle.std.specs.Prelude.{◌≡◌, ℕ, List, [], ◌++◌, ◌∷◌, map, Some, slice_get}
use Rattle.wire_def.specs.declared.encoding.Back.{Back}
use Rattle.aoi.specs.Plain.{PlainInterface, PlainOperation}
use Rattle.pres.specs.Bindings.{Binding}
use Rattle.pres.specs.Offers.{operations}

-- the operations of interfaces, each with its interface, in the order of the operations of the back end
abbrev pub operations_in : Back → List PlainInterface → List (PlainInterface × PlainOperation)
operations_in k [] = []
operations_in k (i ∷ is) = map (λ (p : PlainOperation). (i, p)) (operations k i) ++ operations_in k is

-- the operation of a number is this one, of this interface
abbrev pub IsOperation : Binding → ℕ → PlainInterface → PlainOperation → Type 0
IsOperation b op i p = slice_get (operations_in b.back b.unit.interfaces) op ≡ Some (i, p)
