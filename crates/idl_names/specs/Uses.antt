-- Types that names stand for.
use Rattle.std.specs.Prelude.{Bool, true, false}
use Rattle.aoi.specs.Shapes.{Shape, number, named}
use Rattle.idl_names.specs.declared.uses.Tag.{Tag}
use Rattle.idl_names.specs.declared.uses.Tag.TheVariants as tag
use Rattle.idl_names.specs.declared.uses.Use.{Use}
use Rattle.idl_names.specs.declared.uses.Use.TheVariants.{Number, Declared}

-- the plain tree of a type by its name
abbrev pub shape_of_use : Use → Shape
shape_of_use (Number k) = number k
shape_of_use (Declared k tag) = named k

-- what a type is as the tag of a union
abbrev pub tag_of_use : Use → Tag
tag_of_use (Number k) = tag.Number k
tag_of_use (Declared k tag) = tag

-- not the tag of a union
abbrev pub is_other : Tag → Bool
is_other tag.Other = true
is_other _ = false
