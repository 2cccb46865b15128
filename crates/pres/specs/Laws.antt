-- Laws of binding.
use Rattle.std.specs.Prelude.{◌≡◌, None}
use Rattle.wire_def.specs.declared.encoding.Back.{Back}
use Rattle.aoi.specs.Plain.{PlainUnit, IsSoundPlain}
use Rattle.pres.specs.Bindings.{Binding, IsBinding}
use Rattle.pres.specs.Faces.{faces}
use Rattle.pres.specs.Faults.{bind_fault}
use Rattle.pres.specs.Made.{all_made}

-- each sound unit that has no reason against it has a binding, of the nodes that it makes
abbrev pub UnitsAreBound : Type 0
UnitsAreBound = (u : PlainUnit) (back : Back) → IsSoundPlain u → bind_fault u back ≡ None
    → (b : Binding) × IsBinding b × (b.unit ≡ u) × (b.back ≡ back) × (faces b.nodes b.shapes ≡ all_made u back)
