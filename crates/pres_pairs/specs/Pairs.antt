-- Operations of two bindings of one unit that are the same operation.
use Rattle.std.specs.Prelude.{◌≡◌, ◌==◌, ◌&&◌, Bool, false, ℕ, List, Option, None, Some, slice_get, if◌then◌else◌}
use Rattle.std.specs.List.{position_from}
use Rattle.std.specs.Str.{bytes_eq}
use Rattle.pres.specs.declared.ops.Op.{Op}
use Rattle.pres.specs.Bindings.{Binding}
use Rattle.skeleton.specs.Exchanges.{request_type, reply_type}

-- an operation of an interface, by its name
abbrev pub is_named : ℕ → List ℕ → Op → Bool
is_named interface name o = o.interface == interface && bytes_eq o.name name

-- the number of the first operation of an interface that has a name
abbrev pub number_of : Binding → ℕ → List ℕ → Option ℕ
number_of b interface name = position_from (is_named interface name) 0 b.ops

-- a number is there, and it is this one
abbrev pub is_number : ℕ → Option ℕ → Bool
is_number op None = false
is_number op (Some k) = k == op

-- the number elsewhere of the first operation of the same interface and name, for an operation that is the first of them itself
abbrev pub pair_at : Binding → Binding → ℕ → Option Op → Option ℕ
pair_at b c op None = None
pair_at b c op (Some o) = if is_number op (number_of b o.interface o.name) then number_of c o.interface o.name else None

-- the number of an operation in another binding of its unit
abbrev pub pair_of : Binding → Binding → ℕ → Option ℕ
pair_of b c op = pair_at b c op (slice_get b.ops op)

-- an operation of one binding and an operation of another: they have one interface and name, and messages of the same types
pub record ArePaired (b c : Binding) (op other : ℕ) : Type 0 where
  pub own : Op
  pub pair : Op
  pub here : slice_get b.ops op ≡ Some own
  pub there : slice_get c.ops other ≡ Some pair
  pub interface : own.interface ≡ pair.interface
  pub name : own.name ≡ pair.name
  pub request : request_type b op ≡ request_type c other
  pub reply : reply_type b op ≡ reply_type c other
