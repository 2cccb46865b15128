-- The nodes that a unit makes, each as what it unfolds to.
use Rattle.std.specs.Prelude.{List, [], ◌∷◌, ◌++◌, Option, None, Some}
use Rattle.mint.specs.declared.kind.Kind.{Kind}
use Rattle.mint.specs.Types.{text}
use Rattle.wire_def.specs.declared.encoding.Back.{Back}
use Rattle.aoi.specs.Shapes as aoi
use Rattle.aoi.specs.Plain.{PlainRaise, PlainOperation, PlainInterface, PlainUnit, plain_shapes}
use Rattle.pres.specs.Faces.{number, item, Face, nothing, scalar, numbers}
use Rattle.pres.specs.Offers.{packed, face_of, type_faces, exception, request_of, answer_of, reply_of, gotten}

-- the nodes of elements: those that stand together make none
abbrev pub kept : Option Kind → List Face → List Face
kept None inside = inside
kept (Some k) inside = []

-- one node for each type inside a type and for itself, itself the last; a name and a tag make none
abbrev mutual
  pub made : List Face → aoi.Shape → List Face
  made fs aoi.void = nothing ∷ []
  made fs (aoi.number k) = scalar (number k) ∷ []
  made fs (aoi.enumeration items) = scalar (item items) ∷ []
  made fs (aoi.text c) = numbers (text c) ∷ []
  made fs (aoi.array s c) = kept (packed (face_of fs s)) (made fs s) ++ face_of fs (aoi.array s c) ∷ []
  made fs (aoi.structure ms) = made_inside fs ms ++ face_of fs (aoi.structure ms) ∷ []
  made fs (aoi.choice tag arms) = made_after fs arms ++ face_of fs (aoi.choice tag arms) ∷ []
  made fs (aoi.optional s) = made fs s ++ face_of fs (aoi.optional s) ∷ []
  made fs (aoi.named k) = []

  -- those of fields
  pub made_inside : List Face → aoi.Members → List Face
  made_inside fs aoi.no_more = []
  made_inside fs (aoi.member n s ms) = made fs s ++ made_inside fs ms

  -- those of arms, the last arm's first
  pub made_after : List Face → aoi.Arms → List Face
  made_after fs aoi.no_default = []
  made_after fs (aoi.default s) = made fs s
  made_after fs (aoi.arm n s arms) = made_after fs arms ++ made fs s

-- those of types that may name the ones before them
abbrev pub made_in_types : List Face → List aoi.Shape → List Face
made_in_types fs [] = []
made_in_types fs (s ∷ ss) = made fs s ++ made_in_types (fs ++ face_of fs s ∷ []) ss

-- those of exceptions
abbrev pub made_raised : List Face → List PlainRaise → List Face
made_raised fs [] = []
made_raised fs (r ∷ rs) = made fs (exception r) ++ made_raised fs rs

-- those of a request: its parameters, and itself
abbrev pub made_request : List Face → PlainOperation → List Face
made_request fs op = made_inside fs op.ins ++ request_of fs op ∷ []

-- those of an answer: the result, the parameters out, and itself
abbrev pub made_answer : List Face → PlainOperation → List Face
made_answer fs op = (made fs op.result ++ made_inside fs op.outs) ++ answer_of fs op ∷ []

-- those of a reply: the answer, the exceptions, and itself
abbrev pub made_reply : List Face → PlainOperation → List Face
made_reply fs op = (made_answer fs op ++ made_raised fs op.raises) ++ reply_of fs op ∷ []

-- those of operations
abbrev pub made_by : List Face → List PlainOperation → List Face
made_by fs [] = []
made_by fs (op ∷ ops) = (made_request fs op ++ made_reply fs op) ++ made_by fs ops

-- those of interfaces
abbrev pub made_in_interfaces : List Face → Back → List PlainInterface → List Face
made_in_interfaces fs b [] = []
made_in_interfaces fs b (i ∷ is) = (made_by fs i.ops ++ made_by fs (gotten b i)) ++ made_in_interfaces fs b is

-- those of a unit
unfoldable pub all_made : PlainUnit → Back → List Face
all_made u b = made_in_types [] (plain_shapes u) ++ made_in_interfaces (type_faces u) b u.interfaces
