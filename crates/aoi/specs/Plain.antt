-- Units as plain trees.
use Rattle.std.specs.Prelude.{IsTrue, Bool, ◌&&◌, nat_le, nat_lt, ℕ, ◌+◌, ◌-◌, ◌^◌, List, map, length}
use Rattle.std.specs.List.{list_all}
use Rattle.kit_base.specs.Limits.{most_raises}
use Rattle.aoi.specs.declared.interfaces.Interface.{Interface}
use Rattle.aoi.specs.declared.interfaces.Operation.{Operation}
use Rattle.aoi.specs.declared.interfaces.Raise.{Raise}
use Rattle.aoi.specs.Shapes.{Shape, Members, seen, members}
use Rattle.aoi.specs.Sound.{are_distinct, names_of, are_sound, or_void, is_sound_type, are_sound_types}
use Rattle.aoi.specs.Units.{Parts}

-- an exception
pub record PlainRaise : Type 0 where
  pub name : List ℕ
  pub id : List ℕ
  pub members : Members

-- an operation
pub record PlainOperation : Type 0 where
  pub name : List ℕ
  pub proc_no : ℕ
  pub slot : ℕ
  pub ins : Members
  pub outs : Members
  pub result : Shape
  pub raises : List PlainRaise
  pub oneway : Bool

-- an interface
pub record PlainInterface : Type 0 where
  pub name : List ℕ
  pub program : ℕ
  pub version : ℕ
  pub base : ℕ
  pub slots : ℕ
  pub ops : List PlainOperation

-- the types of a unit, each with its name, and its interfaces
pub record PlainUnit : Type 0 where
  pub types : List (List ℕ × Shape)
  pub interfaces : List PlainInterface

abbrev pub plain_raise : Raise → PlainRaise
plain_raise r = record { name = r.name; id = r.id; members = members r.members }

abbrev pub plain_operation : Operation → PlainOperation
plain_operation o = record {
  name = o.name;
  proc_no = o.proc_no;
  slot = o.slot;
  ins = members o.ins;
  outs = members o.outs;
  result = seen o.result;
  raises = map plain_raise o.raises;
  oneway = o.oneway;
}

abbrev pub plain_interface : Interface → PlainInterface
plain_interface i = record {
  name = i.name;
  program = i.program;
  version = i.version;
  base = i.base;
  slots = i.slots;
  ops = map plain_operation i.ops;
}

-- the plain tree of a unit
abbrev pub plain : Parts → PlainUnit
plain u = record { types = map (λ t. (t.0, seen t.1)) u.types; interfaces = map plain_interface u.interfaces }

-- ---- soundness, over plain trees

abbrev pub is_sound_plain_raise : List Shape → PlainRaise → Bool
is_sound_plain_raise types r = are_distinct (names_of r.members) && are_sound types (length types) r.members

abbrev pub is_sound_plain_operation : List Shape → ℕ → PlainOperation → Bool
is_sound_plain_operation types slots op =
    are_sound types (length types) op.ins
    && are_sound types (length types) op.outs
    && or_void op.result (is_sound_type types (length types) op.result)
    && nat_le (length op.raises) most_raises
    && list_all (is_sound_plain_raise types) op.raises
    && nat_lt op.slot slots

abbrev pub is_sound_plain_interface : List Shape → PlainInterface → Bool
is_sound_plain_interface types i = nat_le (i.base + i.slots + 100) (2 ^ 31 - 1) && list_all (is_sound_plain_operation types i.slots) i.ops

-- the types of a unit without their names
abbrev pub plain_shapes : PlainUnit → List Shape
plain_shapes u = map (λ t. t.1) u.types

-- a unit that is sound, seen as plain trees
abbrev pub is_sound_plain : PlainUnit → Bool
is_sound_plain u = are_sound_types (plain_shapes u) 0 (plain_shapes u) && list_all (is_sound_plain_interface (plain_shapes u)) u.interfaces

abbrev pub IsSoundPlain : PlainUnit → Type 0
IsSoundPlain u = IsTrue (is_sound_plain u)
