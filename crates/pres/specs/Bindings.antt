-- A unit with the nodes that stand for it.
use Rattle.std.specs.Prelude.{◌≡◌, ◌<◌, false, List, map, length}
use Rattle.std.specs.List.{AllByRecursion, list_any}
use Rattle.mint.specs.declared.node.Node.{Node}
use Rattle.wire_def.specs.declared.encoding.Back.{Back}
use Rattle.aoi.specs.Plain.{PlainUnit, IsSoundPlain}
use Rattle.pres.specs.declared.shape.Shape.{Shape}
use Rattle.pres.specs.declared.ops.Op.{Op}
use Rattle.pres.specs.Faces.{faces}
use Rattle.pres.specs.Faults.{has_long_in}
use Rattle.pres.specs.Named.{AreNamed}
use Rattle.pres.specs.Offers.{offers, offer_at}

-- nodes, their shapes, and the operations of a unit over a back end
pub record Binding : Type 0 where
  pub nodes : List Node
  pub shapes : List Shape
  pub ops : List Op
  pub unit : PlainUnit
  pub back : Back

-- an operation whose messages are nodes
pub record IsPlaced (b : Binding) (o : Op) : Type 0 where
  pub request : o.request < length b.nodes
  pub reply : o.reply < length b.nodes

-- a binding whose operations stand for those of its unit
pub record IsBinding (b : Binding) : Type 0 where
  -- each node has the names that belong to it
  pub named : AreNamed b.nodes b.shapes
  pub sound : IsSoundPlain b.unit
  -- no name of an interface or of an operation is long, and no id of an exception
  pub short : list_any has_long_in b.unit.interfaces ≡ false
  pub placed : AllByRecursion (IsPlaced b) b.ops
  -- the operations are the unit's, in order
  pub offered : map (offer_at (faces b.nodes b.shapes)) b.ops ≡ offers b.unit b.back
