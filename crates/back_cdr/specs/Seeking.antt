-- What requests name, and what their heads say, over a binding.
use Rattle.std.specs.Prelude.{◌≡◌, ℕ, Bool, List}
use Rattle.std.specs.Str.{bytes_eq}
use Rattle.aoi.specs.Plain.{PlainInterface, PlainOperation}
use Rattle.head_kit.specs.declared.call_head.CallHead.{CallHead}
use Rattle.head_kit.specs.declared.call_head.CallTarget.{CallTarget}
use Rattle.head_kit.specs.Calls as kit
use Rattle.giop_head.specs.Items.{laid}
use Rattle.giop_head.specs.Reported.{ReportedRequest, BeginsRequest}
use Rattle.back_cdr.specs.Targets.{ops_of}
use Rattle.pres.specs.Bindings.{Binding}

-- an interface whose name is the key
abbrev pub has_key : List ℕ → PlainInterface → Bool
has_key key i = bytes_eq i.name key

-- an operation of this name
abbrev pub has_name : List ℕ → PlainOperation → Bool
has_name name op = bytes_eq op.name name

-- the first interface whose name is the key, and its first operation of the name, where the operations of the interfaces
-- are counted from k
abbrev pub named_from : ℕ → List PlainInterface → List ℕ → List ℕ → CallTarget
named_from k is key name = kit.named_from ops_of (has_key key) (λ i. has_name name) k is

-- the operation that a request names
abbrev pub named : Binding → ReportedRequest → CallTarget
named b t = named_from 0 b.unit.interfaces t.key t.name

-- what the head of a request says: its body lies in the order of its message
abbrev pub called : Binding → ReportedRequest → CallHead
called b t = record { naming = named b t; head = t.head; encoding = laid t.head.order; used = t.used; minor = t.minor }

-- a message begins with the head of a request that says this
abbrev pub Calls : Binding → List ℕ → CallHead → Type 0
Calls b o reported = (t : ReportedRequest) × BeginsRequest o t × (called b t ≡ reported)
