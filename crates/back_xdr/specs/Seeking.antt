-- What calls name, and what their heads say, over a binding.
use Rattle.std.specs.Prelude.{◌≡◌, ℕ, ◌==◌, Bool, ◌&&◌, List}
use Rattle.wire_def.specs.declared.encoding.Encoding.{Encoding}
use Rattle.wire_def.specs.declared.encoding.Encoding.TheVariants.{Xdr}
use Rattle.aoi.specs.Plain.{PlainInterface}
use Rattle.head_kit.specs.declared.call_head.CallHead.{CallHead}
use Rattle.head_kit.specs.declared.call_head.CallTarget.{CallTarget}
use Rattle.head_kit.specs.Calls as kit
use Rattle.back_xdr.specs.declared.call.OncCall.{OncCall}
use Rattle.back_xdr.specs.Procedures.{numbers}
use Rattle.back_xdr.specs.Reported.{BeginsCall}
use Rattle.pres.specs.Bindings.{Binding}

-- how bodies are laid out
abbrev pub encoding : Encoding
encoding = Xdr

-- an interface with the call's program and version
abbrev pub is_called : OncCall → PlainInterface → Bool
is_called c i = c.program == i.program && c.version == i.version

-- a procedure with the call's number
abbrev pub has_number : OncCall → PlainInterface → ℕ → Bool
has_number c i n = n == c.proc_no

-- the first interface that is called, and its first operation with the call's procedure number, where the operations of
-- the interfaces are counted from k
abbrev pub named_from : ℕ → List PlainInterface → OncCall → CallTarget
named_from k is c = kit.named_from numbers (is_called c) (has_number c) k is

-- the operation that a call names
abbrev pub named : Binding → OncCall → CallTarget
named b c = named_from 0 b.unit.interfaces c

-- what the head of a call says
abbrev pub called : Binding → OncCall → CallHead
called b c = record { naming = named b c; head = c.head; encoding = encoding; used = c.used; minor = 0 }

-- a message begins with the head of a call that says this
abbrev pub Calls : Binding → List ℕ → CallHead → Type 0
Calls b o reported = (c : OncCall) × BeginsCall o c × (called b c ≡ reported)
