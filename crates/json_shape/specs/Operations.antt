-- The operations that records name.
use Rattle.std.specs.Prelude.{Bool, false, ◌++◌, ℕ, suc, List, [], ◌∷◌, map, Option, Some, None, if◌then◌else◌, slice_index_or, codes}
use Rattle.std.specs.Option.{option_map_or}
use Rattle.std.specs.Str.{bytes_eq}
use Rattle.aoi.specs.Plain.{PlainInterface}
use Rattle.pres.specs.declared.ops.Op.{Op}
use Rattle.pres.specs.Bindings.{Binding}
use Rattle.pres.specs.Raises.{source}
use Rattle.json_shape.specs.Texts.{text_of}

-- the name of an interface
abbrev pub interface_name : List PlainInterface → ℕ → List ℕ
interface_name is k = slice_index_or (map (λ i. i.name) is) k []

-- the name of an operation in a record: its interface's name, a dot, and its own
abbrev pub dotted : List PlainInterface → Op → List ℕ
dotted is o = interface_name is o.interface ++ (codes "." ++ o.name)

-- the first operation of a name, with its number, from number k on
abbrev pub op_from : List PlainInterface → List ℕ → ℕ → List Op → Option (ℕ × Op)
op_from is s k [] = None
op_from is s k (o ∷ os) = if bytes_eq (text_of (dotted is o)) s then Some (k, o) else op_from is s (suc k) os

-- the first operation whose name a string is
abbrev pub op_named : Binding → List ℕ → Option (ℕ × Op)
op_named b s = op_from b.unit.interfaces s 0 b.ops

-- the number of an operation that has a reply
abbrev pub if_replying : Option (ℕ × Op) → Option ℕ
if_replying None = None
if_replying (Some o) = if o.1.has_reply then Some o.0 else None

-- the number of the first operation of a name, where it has a reply
abbrev pub replying : Binding → List ℕ → Option ℕ
replying b name = if_replying (op_named b (text_of name))

abbrev pub is_oneway : Binding → ℕ → Bool
is_oneway b k = option_map_or (λ op. op.oneway) (source b k) false
