-- Laws of the JSON of values.
use Rattle.std.specs.Prelude.{Bool, false, not, ◌&&◌, ◌≡◌, ◌⊎◌, ◌<◌, ◌^◌, ℕ, map, Some, Ok, slice_get, IsTrue}
use Rattle.mint.specs.Values.{Val}
use Rattle.mint.specs.Typed.{IsWellTyped}
use Rattle.wire_def.specs.declared.encoding.Back.{Back}
use Rattle.wire_def.specs.declared.head.Head.{Head}
use Rattle.aoi.specs.Sound.{are_distinct}
use Rattle.pres.specs.declared.ops.Op.{Op}
use Rattle.pres.specs.Bindings.{Binding, IsBinding}
use Rattle.pres.specs.Faces.{Face, type_of, face_at}
use Rattle.serde_json.specs.Data.{Data}
use Rattle.json_shape.specs.Members.{is_mach, head_word}
use Rattle.json_shape.specs.Named.{is_named}
use Rattle.json_shape.specs.Operations.{dotted, is_oneway}
use Rattle.json_shape.specs.Presents.{Presents}
use Rattle.json_shape.specs.Records.{Begun}
use Rattle.json_shape.specs.Requests.{head_of, is_idle_port, request_of, request_json}
use Rattle.json_shape.specs.Written.{json_of}

-- a tree presents at most one value
abbrev pub OneValue : Type 0
OneValue = (f : Face) (j : Data) (v w : Val) → Presents f j v → Presents f j w → v ≡ w

-- the tree that is written for a well-typed value presents it
abbrev pub WrittenPresents : Type 0
WrittenPresents = (f : Face) (v : Val) → IsTrue (is_named f) → IsWellTyped (type_of f) v → Presents f (json_of f v) v

-- a tree presents a value
abbrev pub IsPresented : Face → Data → Type 0
IsPresented f j = (v : Val) × Presents f j v

-- a tree presents a value, or none
abbrev pub ValueOrNone : Type 0
ValueOrNone = (f : Face) (j : Data) → IsPresented f j ⊎ (IsPresented f j → ⊥)

-- ---- records that are written

-- operations of which no two have one name in records
abbrev pub are_told_apart : Binding → Bool
are_told_apart b = are_distinct (map (dotted b.unit.interfaces) b.ops)

-- a head over Mach that has a port for a reply that never comes
abbrev pub has_idle_port : Back → Op → Head → Bool
has_idle_port b o h = is_mach b && is_idle_port o h.local

-- a head that the request record of an operation can have
pub record IsHeadOf (b : Back) (o : Op) (h : Head) : Type 0 where
  pub word : head_word b h < 2 ^ 32
  pub port : h.local < 2 ^ 32
  pub idle : has_idle_port b o h ≡ false

-- the request that a written record begins: the operation's, with the numbers of the head, and the value's tree
abbrev pub begun_again : Binding → ℕ → Op → Head → Val → Begun
begun_again b k o h v = record {
  op = k;
  head = head_of b.back (head_word b.back h) h.local (not (is_oneway b k));
  face = face_at b.nodes b.shapes o.request;
  tree = json_of (face_at b.nodes b.shapes o.request) v;
}

-- a request record that is written is read as the same request, and presents the same value
abbrev pub RecordsAreReadBack : Type 0
RecordsAreReadBack = (b : Binding) (k : ℕ) (o : Op) (h : Head) (v : Val)
    → IsBinding b → IsTrue (are_told_apart b) → slice_get b.ops k ≡ Some o → IsHeadOf b.back o h
    → IsWellTyped (type_of (face_at b.nodes b.shapes o.request)) v
    → (request_of b (request_json b o h v) ≡ Ok (begun_again b k o h v))
    × Presents (face_at b.nodes b.shapes o.request) (json_of (face_at b.nodes b.shapes o.request) v) v
