-- Types with the names that are in JSON: what a node and its shape unfold to.
use Rattle.std.specs.Prelude.{ℕ, ℤ, List, [], ◌∷◌, ◌++◌, zip, Option, None, Some, slice_index_or, if◌then◌else◌, int_lt}
use Rattle.std.specs.Ordering.{int_eq}
use Rattle.mint.specs.declared.kind.Kind.{Kind}
use Rattle.mint.specs.declared.kind.Count.{Count}
use Rattle.mint.specs.declared.node.Tag.{Tag}
use Rattle.mint.specs.declared.node.Tag.TheVariants as tag
use Rattle.mint.specs.declared.node.Node.{Node}
use Rattle.mint.specs.declared.node.Node.TheVariants as node
use Rattle.mint.specs.Types as mint
use Rattle.mint.specs.Types.{Array, text, row_of, Ty, void_type, scalar_type, array_type, group_type, items_type, choice_type, maybe_type, Tys, no_fields, field, arm_type}
use Rattle.pres.specs.declared.shape.Shape.{Shape}
use Rattle.pres.specs.declared.shape.Shape.TheVariants.{FieldNames, LabelNames}
pub use Rattle.pres.specs.Tables.{ItemList}

-- a number of a kind, or an item of an enum
pub data Sign : Type 0 where
  number : Kind → Sign
  item : ItemList → Sign

mutual
  pub data Face : Type 0 where
    nothing : Face
    scalar : Sign → Face
    numbers : Array → Face
    -- values in order, without names
    values : Parts → Face
    -- fields, each with its name
    members : Parts → Face
    list : Count → Face → Face
    choice : Sign → Arms → Face
    maybe : Face → Face

  pub data Parts : Type 0 where
    no_parts : Parts
    part : List ℕ → Face → Parts → Parts

  -- in order; the last is for every other number, or for none
  pub data Arms : Type 0 where
    no_other : Arms
    other : Face → Arms
    arm : ℤ → Face → Arms → Arms

-- ---- what a face is as a message type

-- a number put among rising ones, once
abbrev pub put_in : ℤ → List ℤ → List ℤ
put_in n [] = n ∷ []
put_in n (m ∷ ms) = if int_eq n m then m ∷ ms else (if int_lt n m then n ∷ m ∷ ms else m ∷ put_in n ms)

-- the different numbers of items, rising
abbrev pub labels_of : ItemList → List ℤ
labels_of [] = []
labels_of (i ∷ items) = put_in i.1 (labels_of items)

-- the scalar of a number, or of the items of an enum
abbrev pub scalar_of : Sign → mint.Scalar
scalar_of (number k) = mint.number k
scalar_of (item items) = mint.label (labels_of items)

abbrev mutual
  pub type_of : Face → Ty
  type_of nothing = void_type
  type_of (scalar s) = scalar_type (scalar_of s)
  type_of (numbers a) = array_type a
  type_of (values ps) = group_type (types_of ps)
  type_of (members ps) = group_type (types_of ps)
  type_of (list c f) = items_type c (type_of f)
  type_of (choice s arms) = choice_type (scalar_of s) (arm_types_of arms)
  type_of (maybe f) = maybe_type (type_of f)

  pub types_of : Parts → Tys
  types_of no_parts = no_fields
  types_of (part n f ps) = field (type_of f) (types_of ps)

  pub arm_types_of : Arms → mint.Arms
  arm_types_of no_other = mint.no_other
  arm_types_of (other f) = mint.others (type_of f)
  arm_types_of (arm n f arms) = arm_type n (type_of f) (arm_types_of arms)

-- ---- what a node and its shape unfold to

-- the face of a number among those of the nodes before; nothing where there is none
abbrev pub at : List Face → ℕ → Face
at fs i = slice_index_or fs i nothing

-- the parts of these numbers, by these names as long as there are any
abbrev pub parts_at : List Face → List (List ℕ) → List ℕ → Parts
parts_at fs names [] = no_parts
parts_at fs [] (i ∷ is) = part [] (at fs i) (parts_at fs [] is)
parts_at fs (n ∷ names) (i ∷ is) = part n (at fs i) (parts_at fs names is)

-- the face of the default, where there is one
abbrev pub other_at : List Face → Option ℕ → Arms
other_at fs None = no_other
other_at fs (Some i) = other (at fs i)

-- the faces of arms by their numbers, and that of the default
abbrev pub arms_at : List Face → List (ℤ × ℕ) → Option ℕ → Arms
arms_at fs [] o = other_at fs o
arms_at fs (a ∷ arms) o = arm a.0 (at fs a.1) (arms_at fs arms o)

-- the items that a shape names
abbrev pub items_in : Shape → ItemList
items_in (LabelNames items) = items
items_in _ = []

-- what a discriminant is in JSON: a number, or an item by its name
abbrev pub sign_of : Tag → Shape → Sign
sign_of (tag.Num k) s = number k
sign_of (tag.Enum labels) s = item (items_in s)

-- a group by the names of its fields, or without names
abbrev pub group_face : List Face → List ℕ → Shape → Face
group_face fs ids (FieldNames names) = members (parts_at fs names ids)
group_face fs ids _ = values (parts_at fs [] ids)

-- a node and its shape, over the faces of the nodes before it
abbrev pub level : List Face → Node → Shape → Face
level fs node.Void s = nothing
level fs (node.Num k) s = scalar (number k)
level fs (node.Enum labels) s = scalar (item (items_in s))
level fs (node.Text c) s = numbers (text c)
level fs (node.Row k c) s = numbers (row_of k c)
level fs (node.Group ids) s = group_face fs ids s
level fs (node.Items i c) s = list c (at fs i)
level fs (node.Choice t arms o) s = choice (sign_of t s) (arms_at fs arms o)
level fs (node.Maybe i) s = maybe (at fs i)

-- the faces fs, and after them those of nodes with their shapes
unfoldable pub faces_from : List Face → List (Node × Shape) → List Face
faces_from fs [] = fs
faces_from fs (n ∷ nodes) = faces_from (fs ++ level fs n.0 n.1 ∷ []) nodes

-- the faces of a table's nodes
unfoldable pub faces : List Node → List Shape → List Face
faces nodes shapes = faces_from [] (zip nodes shapes)

-- the face of a node
abbrev pub face_at : List Node → List Shape → ℕ → Face
face_at nodes shapes id = at (faces nodes shapes) id
