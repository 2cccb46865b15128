-- What the code holds, as a state.
use Rattle.std.specs.Prelude.{map}
use Rattle.aoi.specs.Shapes.{seen}
use Rattle.aoi.specs.Plain.{plain_raise}
use Rattle.corba_shapes.specs.declared.state.Shapes.{Shapes}
use Rattle.corba_shapes.specs.State.{State}

-- a state with the plain trees of types and exceptions
abbrev pub state : Shapes → State
state h = record {
  names = h.scopes;
  labels = h.labels.keys;
  types = map (λ t. (t.0, seen t.1)) h.types;
  exceptions = map plain_raise h.exceptions;
  count = h.count;
}
