-- The head of a request in another format: of the one that was read its number is kept.
use Rattle.std.specs.Prelude.{ℕ, Bool, true, false, not, ◌&&◌, List, Option, Some, None, slice_get, if◌then◌else◌}
use Rattle.std.specs.List.{list_any}
use Rattle.std.specs.Str.{bytes_eq}
use Rattle.wire_def.specs.declared.encoding.Back.{Back}
use Rattle.wire_def.specs.declared.encoding.Back.TheVariants as back
use Rattle.wire_def.specs.declared.head.Head.{Head}
use Rattle.wire_def.specs.declared.head.Order.TheVariants.{Big, Little}
use Rattle.aoi.specs.Plain.{PlainInterface, PlainOperation}
use Rattle.pres.specs.declared.ops.Op.{Op}
use Rattle.pres.specs.Bindings.{Binding}

-- the number of a head that is kept: the local port over Mach, else the id
abbrev pub number_in : Back → Head → ℕ
number_in back.Xdr h = h.id
number_in back.CdrBig h = h.id
number_in back.CdrLittle h = h.id
number_in back.Mach h = h.local

-- a oneway operation that has this name
abbrev pub is_oneway_of : List ℕ → PlainOperation → Bool
is_oneway_of name op = op.oneway && bytes_eq op.name name

-- there is one among these
abbrev pub is_oneway_in : List ℕ → List PlainOperation → Bool
is_oneway_in name ops = list_any (is_oneway_of name) ops

-- there is one in this interface, if it is one
abbrev pub is_oneway_there : List ℕ → Option PlainInterface → Bool
is_oneway_there name None = false
is_oneway_there name (Some i) = is_oneway_in name i.ops

-- there is one in the interface of a number
abbrev pub is_oneway_among : List PlainInterface → ℕ → List ℕ → Bool
is_oneway_among is k name = is_oneway_there name (slice_get is k)

-- the unit of a binding has an operation as oneway
abbrev pub is_oneway : Binding → Op → Bool
is_oneway b o = is_oneway_among b.unit.interfaces o.interface o.name

-- the head of a request with this number, of an operation that is oneway or not: over Mach that has no port for a reply, over CDR
-- it wants none
abbrev pub head_over : Back → Bool → ℕ → Head
head_over back.Xdr oneway n = record { id = n; remote = 0; local = 0; wants = true; order = Big }
head_over back.CdrBig oneway n = record { id = n; remote = 0; local = 0; wants = not oneway; order = Big }
head_over back.CdrLittle oneway n = record { id = n; remote = 0; local = 0; wants = not oneway; order = Little }
head_over back.Mach oneway n = record { id = 0; remote = 0; local = if oneway then 0 else n; wants = true; order = Big }

-- the same of an operation of a binding, if it is one
abbrev pub head_of : Binding → ℕ → Option Op → Head
head_of b n None = head_over b.back false n
head_of b n (Some o) = head_over b.back (is_oneway b o) n

-- the head of a request with a number for the operation of a binding
abbrev pub head_at : Binding → ℕ → ℕ → Head
head_at b op n = head_of b n (slice_get b.ops op)
