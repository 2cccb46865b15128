-- What the code holds, as a state.
use Rattle.std.specs.Prelude.{ℕ, List, map}
use Rattle.aoi.specs.declared.interfaces.Operation.{Operation}
use Rattle.aoi.specs.declared.types.Field.{Field}
use Rattle.aoi.specs.Shapes.{seen, seen_field}
use Rattle.aoi.specs.Plain.{plain_operation}
use Rattle.aoi.specs.Units.{Parts}
use Rattle.front_mig.specs.Types.{Scope}
use Rattle.front_mig.specs.State.{State}
use Rattle.front_mig.specs.Routines.{Parameters}

-- a state whose types and operations are the code's own
pub record Held : Type 0 where
  pub scope : Scope
  pub unit : Parts
  pub names : List (List ℕ)
  pub ops : List Operation
  pub slots : ℕ

-- the same with plain trees
abbrev pub state : Held → State
state h = record {
  scope = h.scope;
  types = map (λ t. (t.0, seen t.1)) h.unit.types;
  names = h.names;
  ops = map plain_operation h.ops;
  slots = h.slots;
}

-- parameters by their names and fields
abbrev pub parameters_held : List (List ℕ) → List Field → List Field → Parameters
parameters_held names ins outs = record { names = names; ins = map seen_field ins; outs = map seen_field outs }
