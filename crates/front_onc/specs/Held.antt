-- What the code holds, as a state.
use Rattle.std.specs.Prelude.{ℕ, ℤ, List, map}
use Rattle.aoi.specs.Shapes.{seen}
use Rattle.aoi.specs.Plain.{plain_interface}
use Rattle.aoi.specs.Units.{Parts}
use Rattle.front_onc.specs.Names.{Scope}
use Rattle.front_onc.specs.State.{State}

-- a state whose unit has the types themselves
pub record Held : Type 0 where
  pub scope : Scope
  pub labels : List (ℕ × ℤ)
  pub unit : Parts
  pub versions : ℕ
  pub count : ℕ

-- the same with the unit's plain trees
abbrev pub state : Held → State
state h = record {
  scope = h.scope;
  labels = h.labels;
  types = map (λ t. (t.0, seen t.1)) h.unit.types;
  interfaces = map plain_interface h.unit.interfaces;
  versions = h.versions;
  count = h.count;
}
