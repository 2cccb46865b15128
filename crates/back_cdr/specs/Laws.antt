-- Laws of the heads that are sent, and of what requests name.
use Rattle.std.specs.Prelude.{◌≡◌, ◌↔◌, ℕ, Bool, false, [], length}
use Rattle.mint.specs.Sound.{IsSound}
use Rattle.mint.specs.Typed.{IsWellTyped}
use Rattle.mint.specs.Values.{Val}
use Rattle.head_kit.specs.declared.call_head.CallTarget.TheVariants.{Operation}
use Rattle.giop_head.specs.Reported.{ReportedRequest}
use Rattle.pres.specs.Bindings.{Binding}
use Rattle.wire_def.specs.declared.encoding.Encoding.{Encoding}
use Rattle.wire_def.specs.declared.head.Order.{Order}
use Rattle.wire_def.specs.Send.{send}
use Rattle.back_cdr.specs.Targets.{Target, body_type, has_body, target_of}
use Rattle.back_cdr.specs.Leads.{lead, reply_lead}
use Rattle.back_cdr.specs.Seeking.{named}

-- the heads of one operation and version, whatever their ids, have one length
pub record HaveOneLength (m : ℕ) (r : Order) (t : Target) : Type 0 where
  pub requests : (body : Bool) (id : ℕ) → length (lead m body r t id) ≡ length (lead m body r t 0)
  pub replies : (arm id : ℕ) → length (reply_lead m r t arm id) ≡ length (reply_lead m r t arm 0)

-- so it is of each operation
abbrev pub LeadsHaveOneLength : Type 0
LeadsHaveOneLength = (m : ℕ) (r : Order) (t : Target) → HaveOneLength m r t

-- the operation that a request names has its key and its name
abbrev pub IsNamedRight : Type 0
IsNamedRight = (b : Binding) (t : ReportedRequest) (op : ℕ) → named b t ≡ Operation op
    → ((target_of b op).key ≡ t.key) × ((target_of b op).name ≡ t.name)

-- a head is sent as one that a body follows exactly where octets follow it
abbrev pub BodiesHaveOctets : Type 0
BodiesHaveOctets = (e : Encoding) (b : Binding) (op p : ℕ) (v : Val) → IsSound (body_type b op) → IsWellTyped (body_type b op) v
    → (has_body b op ≡ false) ↔ (send e (body_type b op) p v ≡ [])
