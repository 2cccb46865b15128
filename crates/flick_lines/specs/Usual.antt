-- Records that are read of lines without their trees.
use Rattle.std.specs.Prelude.{◌≡◌, ℕ, List, Some, Ok}
use Rattle.serde_json.specs.Data.{Data}
use Rattle.json_shape.specs.declared.records.RequestRec.{RequestRec}
use Rattle.json_shape.specs.Records.{Comes}
use Rattle.flick_lines.specs.Marshalled.{tree_of, Beginning}

-- a line has a tree, and the record is what the tree presents
pub record IsUsual (begun : Beginning) (line : List ℕ) (r : RequestRec) : Type 0 where
  pub tree : Data
  pub is : tree_of line ≡ Some tree
  pub comes : Comes (begun tree) (Ok r)
