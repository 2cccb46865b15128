-- The names by which requests over CDR find operations and replies exceptions, kept for a unit.
use Rattle.std.specs.Prelude.{◌≡◌, ℕ, List, Option, None, Some, slice_get, slice_index_or}
use Rattle.std.specs.List.{position_from}
use Rattle.std.specs.Str.{bytes_eq}
use Rattle.wire_def.specs.declared.encoding.Back.{Back}
use Rattle.wire_def.specs.declared.encoding.Back.TheVariants as back
use Rattle.aoi.specs.Plain.{PlainInterface}
use Rattle.head_kit.specs.declared.call_head.CallTarget.{CallTarget}
use Rattle.head_kit.specs.declared.call_head.CallTarget.TheVariants.{NoInterface}
use Rattle.cast_stub.specs.Parts.{on_some}
use Rattle.back_cdr.specs.declared.names.Names.{Names}
use Rattle.back_cdr.specs.Offered.{Offered, keys_of, nothing, number_in, offered_from, operation_in, raised_each}

-- the names of interfaces, and of their operations, and the ids of the exceptions of these
pub record AreNames (is : List PlainInterface) (n : Names) : Type 0 where
  pub keys : n.interfaces ≡ keys_of is
  pub offered : n.offered ≡ offered_from 0 is
  pub raised : n.raised ≡ raised_each is

-- those of interfaces over a back end, where its requests have names
abbrev pub AreNamesOver : Back → List PlainInterface → Names → Type 0
AreNamesOver back.CdrBig is n = AreNames is n
AreNamesOver back.CdrLittle is n = AreNames is n
AreNamesOver _ is n = Unit {0}

-- the operation of a name, where there is an interface
abbrev pub operation_of : Option Offered → List ℕ → CallTarget
operation_of None name = NoInterface
operation_of (Some x) name = operation_in x name

-- the operation of a key and a name: the first interface of the key, and its first operation of the name
abbrev pub found : Names → List ℕ → List ℕ → CallTarget
found n key name = operation_of (on_some (position_from (bytes_eq key) 0 n.interfaces) (slice_get n.offered)) name

-- the number of the first exception of an operation with a repository id, from 1
abbrev pub raise_of : Names → ℕ → List ℕ → Option ℕ
raise_of n op id = number_in (slice_index_or n.raised op nothing) id
