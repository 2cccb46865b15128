-- What types stand for, and the messages that a back end has for the operations of a unit.
use Rattle.std.specs.Prelude.{Bool, true, false, not, ◌&&◌, ◌||◌, ◌==◌, ℕ, suc, ℤ, pos, List, [], ◌∷◌, ◌++◌, map, Option, None, Some, if◌then◌else◌, int_lt}
use Rattle.std.specs.List.{list_any}
use Rattle.mint.specs.declared.kind.Kind.{Kind}
use Rattle.mint.specs.declared.kind.Kind.TheVariants as kind
use Rattle.mint.specs.declared.kind.Count.{Count}
use Rattle.mint.specs.Types.{text, row_of}
use Rattle.wire_def.specs.declared.encoding.Back.{Back}
use Rattle.wire_def.specs.declared.encoding.Back.TheVariants as back
use Rattle.aoi.specs.Shapes as aoi
use Rattle.aoi.specs.Plain.{PlainRaise, PlainOperation, PlainInterface, PlainUnit, plain_shapes}
use Rattle.pres.specs.declared.ops.Op.{Op}
use Rattle.pres.specs.Faces.{Sign, number, item, Face, nothing, scalar, numbers, values, members, list, choice, maybe, Parts, no_parts, part, Arms, no_other, other, arm, at}

-- the kind of numbers that stand together where a list has them as elements; those of Bool do not
abbrev pub packed : Face → Option Kind
packed (scalar (number kind.Bool)) = None
packed (scalar (number k)) = Some k
packed _ = None

-- a row of a kind, or else a list
abbrev pub elements_by : Option Kind → Count → Face → Face
elements_by None c f = list c f
elements_by (Some k) c f = numbers (row_of k c)

-- elements of a type
abbrev pub elements : Count → Face → Face
elements c f = elements_by (packed f) c f

-- what a tag's type is a tag of
abbrev pub sign_in : Face → Sign
sign_in (scalar s) = s
sign_in _ = number kind.U32

-- an arm put among arms of rising numbers
abbrev pub put_arm : ℤ → Face → Arms → Arms
put_arm n f (arm m g arms) = if int_lt n m then arm n f (arm m g arms) else arm m g (put_arm n f arms)
put_arm n f arms = arm n f arms

-- what a type stands for, over what the types before it stand for
abbrev mutual
  pub face_of : List Face → aoi.Shape → Face
  face_of fs aoi.void = nothing
  face_of fs (aoi.number k) = scalar (number k)
  face_of fs (aoi.enumeration items) = scalar (item items)
  face_of fs (aoi.text c) = numbers (text c)
  face_of fs (aoi.array s c) = elements c (face_of fs s)
  face_of fs (aoi.structure ms) = members (parts_of fs ms)
  face_of fs (aoi.choice tag arms) = choice (sign_in (face_of fs tag)) (arms_of fs arms)
  face_of fs (aoi.optional s) = maybe (face_of fs s)
  face_of fs (aoi.named k) = at fs k

  pub parts_of : List Face → aoi.Members → Parts
  parts_of fs aoi.no_more = no_parts
  parts_of fs (aoi.member n s ms) = part n (face_of fs s) (parts_of fs ms)

  -- arms are in the order of their numbers
  pub arms_of : List Face → aoi.Arms → Arms
  arms_of fs aoi.no_default = no_other
  arms_of fs (aoi.default s) = other (face_of fs s)
  arms_of fs (aoi.arm n s arms) = put_arm n (face_of fs s) (arms_of fs arms)

-- the faces fs, and after them those of types that may name them
abbrev pub faces_of : List Face → List aoi.Shape → List Face
faces_of fs [] = fs
faces_of fs (s ∷ ss) = faces_of (fs ++ face_of fs s ∷ []) ss

-- what the types of a unit stand for
unfoldable pub type_faces : PlainUnit → List Face
type_faces u = faces_of [] (plain_shapes u)

-- parts without their names
abbrev pub unnamed : Parts → Parts
unnamed no_parts = no_parts
unnamed (part n f ps) = part [] f (unnamed ps)

-- the parameters of an operation in one direction
abbrev pub parameters : List Face → aoi.Members → Parts
parameters fs ms = unnamed (parts_of fs ms)

-- an exception, which is a struct
abbrev pub exception : PlainRaise → aoi.Shape
exception r = aoi.structure r.members

-- exceptions, by numbers from k up
abbrev pub raised : List Face → ℕ → List PlainRaise → Arms
raised fs k [] = no_other
raised fs k (r ∷ rs) = arm (pos k) (face_of fs (exception r)) (raised fs (suc k) rs)

-- what goes in
abbrev pub request_of : List Face → PlainOperation → Face
request_of fs op = values (parameters fs op.ins)

-- the result, and the parameters out
abbrev pub answer_of : List Face → PlainOperation → Face
answer_of fs op = values (part [] (face_of fs op.result) (parameters fs op.outs))

-- what comes back: the answer, or an exception
abbrev pub reply_of : List Face → PlainOperation → Face
reply_of fs op = choice (number kind.U32) (arm (pos 0) (answer_of fs op) (raised fs 1 op.raises))

-- an operation of an interface, with the faces of its messages
pub record Offer : Type 0 where
  pub interface : ℕ
  pub name : List ℕ
  pub request : Face
  pub reply : Face
  pub has_reply : Bool

-- a back end of GIOP messages
abbrev pub is_cdr : Back → Bool
is_cdr back.CdrBig = true
is_cdr back.CdrLittle = true
is_cdr _ = false

-- the back end of ONC messages
abbrev pub is_xdr : Back → Bool
is_xdr back.Xdr = true
is_xdr _ = false

-- a reply is awaited, of each operation over cdr, else of each that is not oneway
abbrev pub is_answered : Back → PlainOperation → Bool
is_answered b op = is_cdr b || not op.oneway

-- an operation of the unit
abbrev pub offer : List Face → Back → ℕ → PlainOperation → Offer
offer fs b k op = record { interface = k; name = op.name; request = request_of fs op; reply = reply_of fs op; has_reply = is_answered b op }

-- procedure 0, which takes nothing and answers nothing
abbrev pub null_operation : PlainOperation
null_operation = record {
  name = 48 ∷ [];
  proc_no = 0;
  slot = 0;
  ins = aoi.no_more;
  outs = aoi.no_more;
  result = aoi.void;
  raises = [];
  oneway = false;
}

-- over Xdr an interface without procedure 0 gets one
abbrev pub gets_null : Back → PlainInterface → Bool
gets_null b i = is_xdr b && not (list_any (λ (op : PlainOperation). op.proc_no == 0) i.ops)

-- the operation that an interface gets
abbrev pub gotten : Back → PlainInterface → List PlainOperation
gotten b i = if gets_null b i then null_operation ∷ [] else []

-- the operations of an interface, and the one that it gets
abbrev pub operations : Back → PlainInterface → List PlainOperation
operations b i = i.ops ++ gotten b i

-- the operations of interfaces, counted from k
abbrev pub offers_from : List Face → Back → ℕ → List PlainInterface → List Offer
offers_from fs b k [] = []
offers_from fs b k (i ∷ is) = map (offer fs b k) (operations b i) ++ offers_from fs b (suc k) is

-- the operations that a back end has messages for
abbrev pub offers : PlainUnit → Back → List Offer
offers u b = offers_from (type_faces u) b 0 u.interfaces

-- what an operation is, over the faces of a table's nodes
abbrev pub offer_at : List Face → Op → Offer
offer_at fs o = record { interface = o.interface; name = o.name; request = at fs o.request; reply = at fs o.reply; has_reply = o.has_reply }
