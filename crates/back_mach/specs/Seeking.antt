-- What requests name, and what their heads say, over a binding.
use Rattle.std.specs.Prelude.{◌≡◌, ℕ, ◌+◌, ◌==◌, Bool, ◌&&◌, nat_le, nat_lt, List}
use Rattle.wire_def.specs.declared.encoding.Encoding.{Encoding}
use Rattle.wire_def.specs.declared.encoding.Encoding.TheVariants.{Mach}
use Rattle.aoi.specs.Plain.{PlainInterface, PlainOperation}
use Rattle.head_kit.specs.declared.call_head.CallHead.{CallHead}
use Rattle.head_kit.specs.declared.call_head.CallTarget.{CallTarget}
use Rattle.head_kit.specs.Calls as kit
use Rattle.back_mach.specs.Routines.{ops_of}
use Rattle.back_mach.specs.declared.call.MachCall.{MachCall}
use Rattle.back_mach.specs.Reported.{BeginsCall}
use Rattle.pres.specs.Bindings.{Binding}

-- how bodies are laid out
abbrev pub encoding : Encoding
encoding = Mach

-- an interface with the id among those of its requests: from its base up, as many as it has slots
abbrev pub has_id : ℕ → PlainInterface → Bool
has_id id i = nat_le i.base id && nat_lt id (i.base + i.slots)

-- an operation whose slot is the id less its interface's base
abbrev pub has_slot : ℕ → ℕ → PlainOperation → Bool
has_slot base id op = base + op.slot == id

-- the operation of an interface that has the id
abbrev pub is_asked : ℕ → PlainInterface → PlainOperation → Bool
is_asked id i = has_slot i.base id

-- the first interface that has the id, and its first operation of that slot; operations are counted from k over all interfaces
abbrev pub named_from : ℕ → List PlainInterface → ℕ → CallTarget
named_from k is id = kit.named_from ops_of (has_id id) (is_asked id) k is

-- the operation that a request names
abbrev pub named : Binding → MachCall → CallTarget
named b c = named_from 0 b.unit.interfaces c.id

-- what the head of a request says
abbrev pub called : Binding → MachCall → CallHead
called b c = record { naming = named b c; head = c.head; encoding = encoding; used = c.used; minor = 0 }

-- a message begins with the head of a request that says this
abbrev pub Calls : Binding → List ℕ → CallHead → Type 0
Calls b o reported = (c : MachCall) × BeginsCall o c × (called b c ≡ reported)
