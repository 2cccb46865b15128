-- Nodes that are drawn for a unit before they are in a table.
use Rattle.std.specs.Prelude.{IsTrue, ◌≡◌, ◌≢◌, ◌<◌, ◌≤◌, Bool, true, ◌&&◌, nat_lt, ℕ, suc, ℤ, List, [], ◌∷◌, ◌++◌, map, length, Option, None, Some}
use Rattle.std.specs.List.{AllByRecursion}
use Rattle.kit_base.specs.Limits.{most_nodes}
use Rattle.mint.specs.declared.kind.Kind.{Kind}
use Rattle.mint.specs.declared.kind.Count.{Count}
use Rattle.mint.specs.Types.{row_of, IsTable, ArmsBelow, IsBelow}
use Rattle.mint.specs.declared.node.Node.{Node}
use Rattle.aoi.specs.Shapes as aoi
use Rattle.aoi.specs.Sound.{are_distinct, names_of}
use Rattle.aoi.specs.Plain.{PlainOperation, PlainInterface, PlainUnit, plain_shapes}
use Rattle.pres.specs.declared.ops.Op.{Op}
use Rattle.pres.specs.declared.shape.Shape.{Shape}
use Rattle.pres.specs.declared.elements.Element.{Element}
use Rattle.pres.specs.declared.elements.Element.TheVariants.{Packed, Drawn}
use Rattle.pres.specs.declared.errors.BindErr.{BindErr}
use Rattle.pres.specs.declared.errors.BindErr.TheVariants as err
use Rattle.pres.specs.Faces.{ItemList, number, item, Face, scalar, numbers, list, Arms, faces, at, arms_at}
use Rattle.pres.specs.Named.{AreNamed}
use Rattle.pres.specs.Offers.{Offer, packed, face_of, exception, offer_at}
use Rattle.pres.specs.Made.{kept, made}

-- nodes with their shapes, and the nodes of the types so far
pub record Sketch : Type 0 where
  pub nodes : List Node
  pub shapes : List Shape
  pub types : List ℕ

-- what the nodes unfold to
unfoldable pub drawn : Sketch → List Face
drawn s = faces s.nodes s.shapes

-- what the types so far stand for
unfoldable pub known : Sketch → List Face
known s = map (at (drawn s)) s.types

-- nodes that a table may hold, each with a shape that it may have, and types among them
pub record IsSketch (s : Sketch) : Type 0 where
  pub table : IsTable s.nodes
  pub named : AreNamed s.nodes s.shapes
  pub few : length s.nodes ≤ most_nodes
  pub below : AllByRecursion (λ i. i < length s.nodes) s.types

-- a sketch with nodes after those of another
pub record Grows (old new : Sketch) (more : List Face) : Type 0 where
  pub nodes : drawn new ≡ drawn old ++ more
  pub types : known new ≡ known old

-- a node that unfolds to a face
pub record IsDrawn (s : Sketch) (id : ℕ) (f : Face) : Type 0 where
  pub below : id < length (drawn s)
  pub is : at (drawn s) id ≡ f

-- the nodes of a type as that of elements
abbrev pub made_within : List Face → aoi.Shape → List Face
made_within fs s = kept (packed (face_of fs s)) (made fs s)

-- the row of elements, over what the nodes unfold to
abbrev pub elements_at : List Face → Element → Count → Face
elements_at fs (Packed k) c = numbers (row_of k c)
elements_at fs (Drawn id) c = list c (at fs id)

-- an element whose node, if it has one, is below a limit
abbrev pub IsPlaced : ℕ → Element → Type 0
IsPlaced n (Packed k) = Unit {0}
IsPlaced n (Drawn id) = id < n

-- an element that unfolds to a face: a kind whose numbers stand together, or the node of what does not
abbrev pub IsElement : Sketch → Element → Face → Type 0
IsElement s (Packed k) f = packed f ≡ Some k
IsElement s (Drawn id) f = (packed f ≡ None) × IsDrawn s id f

-- nodes that unfold to faces
pub record AreDrawn (s : Sketch) (ids : List ℕ) (fs : List Face) : Type 0 where
  pub below : AllByRecursion (λ i. i < length (drawn s)) ids
  pub are : map (at (drawn s)) ids ≡ fs

-- the refusal where there would be too many nodes
abbrev pub Overflows : List Face → BindErr → Type 0
Overflows fs e = e ≢ err.NoMemory → (e ≡ err.Many) × (most_nodes < length fs)

-- a type that names types below a limit, and whose enums and structs have different names
abbrev mutual
  pub is_drawable : ℕ → aoi.Shape → Bool
  is_drawable n (aoi.enumeration items) = are_distinct (map (λ i. i.0) items)
  is_drawable n (aoi.array s c) = is_drawable n s
  is_drawable n (aoi.structure ms) = are_distinct (names_of ms) && are_drawable n ms
  is_drawable n (aoi.choice tag arms) = is_drawable n tag && arms_drawable n arms
  is_drawable n (aoi.optional s) = is_drawable n s
  is_drawable n (aoi.named k) = nat_lt k n
  is_drawable n _ = true

  pub are_drawable : ℕ → aoi.Members → Bool
  are_drawable n aoi.no_more = true
  are_drawable n (aoi.member m s ms) = is_drawable n s && are_drawable n ms

  pub arms_drawable : ℕ → aoi.Arms → Bool
  arms_drawable n aoi.no_default = true
  arms_drawable n (aoi.default s) = is_drawable n s
  arms_drawable n (aoi.arm m s arms) = is_drawable n s && arms_drawable n arms

-- what fields stand for
abbrev pub faces_inside : List Face → aoi.Members → List Face
faces_inside fs aoi.no_more = []
faces_inside fs (aoi.member n s ms) = face_of fs s ∷ faces_inside fs ms

-- the kind of a number
abbrev pub number_in : Face → Option Kind
number_in (scalar (number k)) = Some k
number_in _ = None

-- the items of an enum
abbrev pub enum_in : Face → Option ItemList
enum_in (scalar (item items)) = Some items
enum_in _ = None

-- a choice's arms and its default
pub record AreArms (s : Sketch) (arms : List (ℤ × ℕ)) (o : Option ℕ) (fs : Arms) : Type 0 where
  pub below : ArmsBelow (length (drawn s)) arms
  pub other : IsBelow (length (drawn s)) o
  pub are : arms_at (drawn s) arms o ≡ fs

-- an operation whose types are drawable
pub record IsDrawableOperation (n : ℕ) (op : PlainOperation) : Type 0 where
  pub ins : IsTrue (are_drawable n op.ins)
  pub outs : IsTrue (are_drawable n op.outs)
  pub result : IsTrue (is_drawable n op.result)
  pub raises : AllByRecursion (λ r. IsTrue (is_drawable n (exception r))) op.raises

-- an operation as an offer
pub record IsOffered (s : Sketch) (o : Op) (f : Offer) : Type 0 where
  pub request : o.request < length (drawn s)
  pub reply : o.reply < length (drawn s)
  pub is : offer_at (drawn s) o ≡ f

-- operations as offers
pub record AreOffered (s : Sketch) (os : List Op) (fs : List Offer) : Type 0 where
  pub placed : AllByRecursion (λ (o : Op). (o.request < length (drawn s)) × (o.reply < length (drawn s))) os
  pub are : map (offer_at (drawn s)) os ≡ fs

-- types that are drawable, each over those before it
abbrev pub AreDrawable : ℕ → List aoi.Shape → Type 0
AreDrawable n [] = Unit {0}
AreDrawable n (s ∷ ss) = IsTrue (is_drawable n s) × AreDrawable (suc n) ss

-- an interface whose operations are drawable
abbrev pub IsDrawableInterface : ℕ → PlainInterface → Type 0
IsDrawableInterface n i = AllByRecursion (IsDrawableOperation n) i.ops

-- a unit whose types and operations are drawable
pub record IsDrawableUnit (u : PlainUnit) : Type 0 where
  pub types : AreDrawable 0 (plain_shapes u)
  pub interfaces : AllByRecursion (IsDrawableInterface (length u.types)) u.interfaces
