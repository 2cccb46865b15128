-- What the octets of a message are for the operations of a binding.
use Rattle.std.specs.Prelude.{◌≡◌, ◌↔◌, ℕ, ◌+◌, ◌<◌, ◌≤◌, List, length, drop, Result, Ok, Err}
use Rattle.kit_base.specs.Limits.{longest_message}
use Rattle.mint.specs.Values.{Val, seen}
use Rattle.wire_def.specs.declared.head.Head.{Head}
use Rattle.wire_def.specs.Spells.{IsSpelling}
use Rattle.wire_def.specs.Stops as bodies
use Rattle.plain_wire.specs.Answered.{FirstSpell}
use Rattle.head_kit.specs.declared.call_head.CallHead.{CallHead}
use Rattle.head_kit.specs.declared.call_head.CallTarget.{CallTarget}
use Rattle.head_kit.specs.declared.call_head.CallTarget.TheVariants.{Operation, NoInterface, NoOperation}
use Rattle.pres.specs.Bindings.{Binding}
use Rattle.flick_engine.specs.declared.requests.Request.{Request}
use Rattle.flick_engine.specs.declared.errors.MessageErr.{MessageErr}
use Rattle.flick_engine.specs.declared.errors.MessageErr.TheVariants as err
use Rattle.flick_engine.specs.Backs.{Begins, Stops}
use Rattle.flick_engine.specs.Messages.{request_type}

-- an operation, and the head and the value of a call of it
pub record Asked : Type 0 where
  pub op : ℕ
  pub head : Head
  pub value : Val

-- at most so many octets as a message may have
abbrev pub IsShort : List ℕ → Type 0
IsShort o = length o ≤ longest_message

-- the octets begin with the head of a call that names this
abbrev pub Names : Binding → List ℕ → CallHead → CallTarget → Type 0
Names b o c n = IsShort o × Begins b o c × (c.naming ≡ n)

-- they begin with the head of a call that names an operation, and there is this after the head
abbrev pub Calls : Binding → List ℕ → (CallHead → ℕ → Type 0) → Type 0
Calls b o After = (c : CallHead) × (op : ℕ) × Names b o c (Operation op) × After c op

-- octets begin with the head of a call that names an operation
abbrev pub CallsOperation : Binding → List ℕ → Type 0
CallsOperation b o = (c : CallHead) × (op : ℕ) × Names b o c (Operation op)

-- what a message is: the first of these that holds. Places are counted from its first octet.
abbrev pub ReadCall : Binding → List ℕ → Result Asked MessageErr → Type 0
ReadCall b o (Err err.Long) = longest_message < length o
ReadCall b o (Err (err.Head e)) = IsShort o × Stops b.back o e
ReadCall b o (Err err.NoInterface) = (c : CallHead) × Names b o c NoInterface
ReadCall b o (Err err.NoOperation) = (c : CallHead) × Names b o c NoOperation
-- the octets after the head stop with the fault
ReadCall b o (Err (err.Body f)) = Calls b o (λ c op. bodies.Stops c.encoding (request_type b op) c.used (drop c.used o) f.kind f.at)
-- they begin with a value's, and others follow at the place
ReadCall b o (Err (err.Trailing at)) = Calls b o (λ c op.
    (v : Val) × (used : ℕ) × FirstSpell c.encoding (request_type b op) c.used (drop c.used o) v used × (at ≡ c.used + used)
    × (at < length o))
-- they are a value's
ReadCall b o (Ok r) = Calls b o (λ c op.
    (r.op ≡ op) × (r.head ≡ c.head) × IsSpelling c.encoding (request_type b op) c.used (drop c.used o) r.value)
ReadCall b o (Err err.NoMemory) = ⊥

-- a request, its value seen as its plain tree
abbrev pub asked : Request → Asked
asked r = record { op = r.op; head = r.head; value = seen r.value }

-- this is what the message is, and it is nothing else
abbrev pub IsExactly : Binding → List ℕ → Result Asked MessageErr → Type 0
IsExactly b o x = (y : Result Asked MessageErr) → (x ≡ y) ↔ ReadCall b o y

-- what was answered is exactly what the message is, unless memory ran out
abbrev pub Answers : Binding → List ℕ → Result Request MessageErr → Type 0
Answers b o (Err err.NoMemory) = Unit {0}
Answers b o (Err e) = IsExactly b o (Err e)
Answers b o (Ok r) = IsExactly b o (Ok (asked r))
