-- The names of fields, as a table has them.
use Rattle.std.specs.Prelude.{◌≡◌, ℕ, List, Some, map, string_bytes}
use Rattle.aoi.specs.Shapes.{members}
use Rattle.aoi.specs.Sound.{names_of}
use Rattle.pres.specs.declared.held.Held.{Held}
use Rattle.pres.specs.declared.held.Held.TheVariants.{Own, Ordered, Texted, Members}
use Rattle.pres.specs.KeyOrder.{key_order}
use Rattle.pres.specs.Tables.{AreAscii, texts_of}

-- names of a table's own, or of an exception's members
abbrev pub names_held : Held → List (List ℕ)
names_held (Own names) = names.value
names_held (Ordered both) = both.names
names_held (Texted both) = both.names
names_held (Members fs) = names_of (members fs)

-- each name has its string beside it, or all are of ASCII
abbrev pub AreTexted : Held → Type 0
AreTexted (Own names) = AreAscii names.value
AreTexted (Ordered both) = AreAscii both.names
AreTexted (Texted both) = map string_bytes both.texts ≡ texts_of both.names
AreTexted (Members fs) = AreAscii (names_of (members fs))

-- an order that is kept is that of the keys
abbrev pub AreOrdered : Held → Type 0
AreOrdered (Ordered both) = key_order both.names ≡ Some both.order.items
AreOrdered _ = Unit {0}

-- what a table has of its names
pub record AreKept (held : Held) : Type 0 where
  pub texts : AreTexted held
  pub order : AreOrdered held
