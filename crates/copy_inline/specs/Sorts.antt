-- How rows and texts travel.
use Rattle.std.specs.Prelude.{Bool, true, nat_eq, if◌then◌else◌}
use Rattle.mint.specs.declared.kind.Kind.{Kind}
use Rattle.mint.specs.Kinds.{width}
use Rattle.mint.specs.Types.{Array}
use Rattle.wire_def.specs.declared.encoding.Encoding.{Encoding}
use Rattle.wire_def.specs.declared.head.Order.{Order}
use Rattle.wire_def.specs.declared.head.Order.TheVariants.{Big, Little}
use Rattle.wire_def.specs.Arrays.{kind_of}
use Rattle.cast_stub.specs.Layouts.{element_width, is_looped}
use Rattle.copy_inline.specs.declared.sorts.Sort.{Sort}
use Rattle.copy_inline.specs.declared.sorts.Sort.TheVariants as sort

-- the sort of a row or text: a block where a number has as many octets in a message as in an image
abbrev pub sort_of : Encoding → Array → Sort
sort_of e a = if is_looped e a then sort.Looped else if nat_eq (element_width e a) (width (kind_of a)) then sort.Block else sort.Wide

-- whether the octets of a number are in the order of an image
abbrev pub is_image : Order → Kind → Bool
is_image Little k = true
is_image Big k = nat_eq (width k) 1
