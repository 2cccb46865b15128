-- What the operations of a unit are in requests: an object's key, a name, and the ids of exceptions.
use Rattle.std.specs.Prelude.{ℕ, ◌≤◌, Bool, true, not, List, [], length, map, flat_map, slice_index_or}
use Rattle.std.specs.List.{AllByRecursion}
use Rattle.kit_base.specs.Limits.{longest_name}
use Rattle.wire_def.specs.declared.encoding.Back.{Back}
use Rattle.wire_def.specs.declared.encoding.Back.TheVariants as back
use Rattle.wire_def.specs.declared.head.Order.{Order}
use Rattle.wire_def.specs.declared.head.Order.TheVariants.{Big, Little}
use Rattle.aoi.specs.Plain.{PlainRaise, PlainInterface, PlainOperation}
use Rattle.mint.specs.Types.{Ty, type_at}
use Rattle.wire_def.specs.Hollow.{is_hollow}
use Rattle.pres.specs.declared.ops.Op.{Op}
use Rattle.pres.specs.Bindings.{Binding}
use Rattle.pres.specs.Offers.{is_cdr}
use Rattle.std.specs.Prelude.{IsTrue}

-- the object's key is the interface's name; a reply is wanted, but of what is oneway
pub record Target : Type 0 where
  pub key : List ℕ
  pub name : List ℕ
  pub wants : Bool
  pub ids : List (List ℕ)

-- the target of an operation of an interface
abbrev pub target_in : PlainInterface → PlainOperation → Target
target_in i op = record { key = i.name; name = op.name; wants = not op.oneway; ids = map (λ (r : PlainRaise). r.id) op.raises }

-- the operations of an interface
abbrev pub ops_of : PlainInterface → List PlainOperation
ops_of i = i.ops

-- those of an interface
abbrev pub targets_in : PlainInterface → List Target
targets_in i = map (target_in i) i.ops

-- those of interfaces, in the order of the operations that they offer
abbrev pub targets : List PlainInterface → List Target
targets is = flat_map targets_in is

-- the target of a number that no operation has
abbrev pub no_target : Target
no_target = record { key = []; name = []; wants = true; ids = [] }

-- the target of an operation
abbrev pub target_of : Binding → ℕ → Target
target_of b op = slice_index_or (targets b.unit.interfaces) op no_target

-- the type of what follows the head of an operation's requests
abbrev pub body_type : Binding → ℕ → Ty
body_type b op = type_at b.nodes (slice_index_or (map (λ (o : Op). o.request) b.ops) op 0)

-- whether octets follow that head: a type has some in all its values, or in none
abbrev pub has_body : Binding → ℕ → Bool
has_body b op = not (is_hollow (body_type b op))

-- a name that is not too long
abbrev pub IsShort : List ℕ → Type 0
IsShort name = length name ≤ longest_name

-- a target whose key, name and ids are not too long
pub record HasShortNames (t : Target) : Type 0 where
  pub key : IsShort t.key
  pub name : IsShort t.name
  pub ids : AllByRecursion IsShort t.ids

-- a back end of this format
abbrev pub IsCdr : Back → Type 0
IsCdr b = IsTrue (is_cdr b)

-- the order of the messages that a back end sends
abbrev pub order_of : Back → Order
order_of back.CdrLittle = Little
order_of _ = Big
