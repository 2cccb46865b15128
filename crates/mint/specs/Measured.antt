-- What a table keeps of its nodes.
use Rattle.std.specs.Prelude.{◌≡◌, ◌≤◌, List, length, map}
use Rattle.std.specs.List.{AllByRecursion}
use Rattle.kit_base.specs.Limits.{most_nodes}
use Rattle.mint.specs.declared.node.Node.{Node}
use Rattle.mint.specs.declared.size.Size.{Size}
use Rattle.mint.specs.Values.{weight}
use Rattle.mint.specs.Types.{Ty, unfolded, IsTable}
use Rattle.mint.specs.Blank.{blank, depth}
use Rattle.mint.specs.Sound.{IsSound}

-- the depth of a type, and the weight of its blank value
abbrev pub size_of : Ty → Size
size_of t = record { depth = depth t; weight = weight (blank t) }

-- nodes that a table took, and the sizes that it keeps of them
pub record AreMeasured (nodes : List Node) (sizes : List Size) : Type 0 where
  pub table : IsTable nodes
  pub many : length nodes ≤ most_nodes
  pub measured : sizes ≡ map size_of (unfolded nodes)
  pub sound : AllByRecursion IsSound (unfolded nodes)
