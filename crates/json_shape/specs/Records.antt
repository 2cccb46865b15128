-- What records come to.
use Rattle.std.specs.Prelude.{◌≡◌, ℕ, Result, Ok, Err}
use Rattle.mint.specs.Values.{Val, seen}
use Rattle.pres.specs.Faces.{Face}
use Rattle.serde_json.specs.Data.{Data}
use Rattle.wire_def.specs.declared.head.Head.{Head}
use Rattle.json_shape.specs.declared.errors.RecordErr.{RecordErr}
use Rattle.json_shape.specs.declared.errors.RecordErr.TheVariants as errors
use Rattle.json_shape.specs.declared.records.RequestRec.{RequestRec}
use Rattle.json_shape.specs.Presents.{Presents}

-- the operation and the head of a record, and the JSON that is to present its value
pub record Begun : Type 0 where
  pub op : ℕ
  pub head : Head
  pub face : Face
  pub tree : Data

-- what was read is the record that was begun, or its first refusal, unless memory ran out
abbrev pub Comes : Result Begun RecordErr → Result RequestRec RecordErr → Type 0
Comes begun (Err errors.NoMemory) = Unit {0}
Comes (Ok b) (Ok r) = (r.op ≡ b.op) × (r.head ≡ b.head) × Presents b.face b.tree (seen r.value)
Comes (Ok b) (Err errors.Shape) = (v : Val) → ¬ Presents b.face b.tree v
Comes (Ok b) (Err e) = ⊥
Comes (Err e) (Ok r) = ⊥
Comes (Err e) (Err f) = e ≡ f
