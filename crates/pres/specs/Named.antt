-- The shapes that a node may have.
use Rattle.std.specs.Prelude.{◌≡◌, ℕ, ℤ, List, [], ◌∷◌, map, length, IsTrue}
use Rattle.mint.specs.declared.node.Tag.{Tag}
use Rattle.mint.specs.declared.node.Tag.TheVariants as tag
use Rattle.mint.specs.declared.node.Node.{Node}
use Rattle.mint.specs.declared.node.Node.TheVariants as node
use Rattle.aoi.specs.Sound.{are_distinct}
use Rattle.pres.specs.declared.shape.Shape.{Shape}
use Rattle.pres.specs.declared.shape.Shape.TheVariants.{Plain, FieldNames, LabelNames}
use Rattle.pres.specs.Faces.{ItemList, labels_of}

-- the labels of an enum, and its items, which have different names
pub record AreItems (numbers : List ℤ) (items : ItemList) : Type 0 where
  pub labels : numbers ≡ labels_of items
  pub distinct : IsTrue (are_distinct (map (λ i. i.0) items))

-- the shapes of a tag: an enum has its items, a number none
abbrev pub IsTagShape : Tag → Shape → Type 0
IsTagShape (tag.Num k) Plain = Unit {0}
IsTagShape (tag.Enum labels) (LabelNames items) = AreItems labels items
IsTagShape _ _ = ⊥

-- different names, one for each field
pub record AreFields (ids : List ℕ) (names : List (List ℕ)) : Type 0 where
  pub each : length names ≡ length ids
  pub distinct : IsTrue (are_distinct names)

-- the shapes of a group
abbrev pub IsGroupShape : List ℕ → Shape → Type 0
IsGroupShape ids Plain = Unit {0}
IsGroupShape ids (FieldNames names) = AreFields ids names
IsGroupShape ids _ = ⊥

-- no names
abbrev pub IsPlain : Shape → Type 0
IsPlain Plain = Unit {0}
IsPlain _ = ⊥

-- the shapes of a node
abbrev pub IsNamed : Node → Shape → Type 0
IsNamed (node.Group ids) s = IsGroupShape ids s
IsNamed (node.Enum labels) s = IsTagShape (tag.Enum labels) s
IsNamed (node.Choice t arms o) s = IsTagShape t s
IsNamed _ s = IsPlain s

-- nodes, each with a shape
abbrev pub AreNamed : List Node → List Shape → Type 0
AreNamed [] [] = Unit {0}
AreNamed (n ∷ nodes) (s ∷ shapes) = IsNamed n s × AreNamed nodes shapes
AreNamed _ _ = ⊥
