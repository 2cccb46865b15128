-- Laws of the heads.
use Rattle.std.specs.Prelude.{◌≡◌, ◌≤◌, ◌↔◌, ℕ, ℤ, pos, List, ◌++◌, length, Some, FitsSigned}
use Rattle.std.specs.Int.{w32}
use Rattle.wire_def.specs.declared.head.Head.{Head}
use Rattle.wire_def.specs.declared.outcome.Refusal.{Refusal}
use Rattle.wire_def.specs.declared.outcome.Refusal.TheVariants as refusal
use Rattle.wire_def.specs.declared.reply.ReplyHead.{ReplyHead}
use Rattle.wire_def.specs.declared.reply.Status.{Status}
use Rattle.head_arms.specs.Arms.{arm_status}
use Rattle.wire_def.specs.declared.reply.Status.TheVariants.{RetCode}
use Rattle.wire_def.specs.Grammar.{AreOctets}
use Rattle.head_kit.specs.Heads.{IsDecided, IsRead}
use Rattle.head_kit.specs.declared.call_head.CallTarget.TheVariants.{Operation}
use Rattle.pres.specs.Bindings.{Binding}
use Rattle.back_mach.specs.declared.call.MachCall.{MachCall}
use Rattle.back_mach.specs.declared.routines.Routine.{Routine}
use Rattle.back_mach.specs.Heads.{HeadKind, format}
use Rattle.back_mach.specs.Leads.{lead, lead_length, reply_lead, reply_lead_length, reply_id, reply_port, with_size}
use Rattle.back_mach.specs.Refusals.{IsOwn, refusal_octets}
use Rattle.back_mach.specs.Routines.{routine_of}
use Rattle.back_mach.specs.Seeking.{named}
use Rattle.back_mach.specs.Reported.{BeginsCall, BeginsReply, shared_head}
use Rattle.head_kit.specs.Words.{IsWord}

-- each message begins with a head or stops with a fault, one of the two, and which head and which fault is determined
abbrev pub HeadsAreDecided : Type 0
HeadsAreDecided = (w : HeadKind) (message : List ℕ) → AreOctets message → IsDecided (format w (length message)) message

-- what is read of a message of any length is spelled, and where reading stops there is the fault
abbrev pub HeadsAreRead : Type 0
HeadsAreRead = (w : HeadKind) (n : ℕ) → IsRead (format w n)

-- the operation that a request names has its id
abbrev pub IsNamedRight : Type 0
IsNamedRight = (b : Binding) (c : MachCall) (op : ℕ) → named b c ≡ Operation op → (routine_of b op).id ≡ c.id

-- ---- what is sent

-- ports that words can hold
abbrev pub HasPorts : Head → Type 0
HasPorts head = IsWord head.remote × IsWord head.local

-- what is reported of the head that is sent of a routine
abbrev pub call_of : Routine → Head → MachCall
call_of r head = record { head = shared_head head.remote (reply_port r.wants head.local); id = r.id; used = lead_length }

-- the head that is sent of a request is read as that request, whatever follows
abbrev pub RequestsAreRead : Type 0
RequestsAreRead = (r : Routine) (head : Head) (body : List ℕ) → IsWord r.id → HasPorts head → IsWord (length (lead r head ++ body))
    → BeginsCall (with_size (lead r head ++ body)) (call_of r head)

-- what is reported of the head, of so many octets, of a reply that is sent to a port
abbrev pub reply_of : ℕ → Status → ℕ → ReplyHead
reply_of remote status used = record { head = shared_head remote 0; status = status; used = used }

-- the head that is sent of a reply with an arm is read as that reply to the request, whatever follows
abbrev pub RepliesAreRead : Type 0
RepliesAreRead = (r : Routine) (arms arm : ℕ) (head : Head) (body : List ℕ) → HasPorts head → IsWord arm → arm ≤ arms
    → IsWord (length (reply_lead r arms arm head ++ body))
    → BeginsReply (reply_id r.id) arms (with_size (reply_lead r arms arm head ++ body))
    (reply_of head.remote (arm_status arm) (reply_lead_length arms))

-- the reply that refuses a request, by a code other than 0, is read as that, whatever exceptions are raised
abbrev pub RefusalsAreRead : Type 0
RefusalsAreRead = (id arms remote : ℕ) (n : ℤ) (o : List ℕ) → IsWord remote → FitsSigned w32 n → (n ≡ pos 0 → ⊥)
    → refusal_octets id remote (refusal.RetCode n) ≡ Some o
    → BeginsReply (reply_id id) arms o (reply_of remote (RetCode n) (reply_lead_length 0))

-- the heads of one routine, whatever their ports and arms, have one length
pub record HaveOneLength (r : Routine) (arms : ℕ) : Type 0 where
  pub requests : (head : Head) → length (lead r head) ≡ lead_length
  pub replies : (arm : ℕ) (head : Head) → length (reply_lead r arms arm head) ≡ reply_lead_length arms

-- so it is of each routine
abbrev pub LeadsHaveOneLength : Type 0
LeadsHaveOneLength = (r : Routine) (arms : ℕ) → HaveOneLength r arms

-- the refusals of this format are those that have octets
abbrev pub OwnHaveOctets : Type 0
OwnHaveOctets = (id remote : ℕ) (r : Refusal) → IsOwn r ↔ ((o : List ℕ) × (refusal_octets id remote r ≡ Some o))
