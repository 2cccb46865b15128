-- Laws of the heads.
use Rattle.std.specs.Prelude.{◌≡◌, ◌≤◌, ◌↔◌, ℕ, List, ◌++◌, length, Some}
use Rattle.wire_def.specs.Grammar.{AreOctets}
use Rattle.wire_def.specs.declared.outcome.Refusal.{Refusal}
use Rattle.wire_def.specs.declared.reply.ReplyHead.{ReplyHead}
use Rattle.head_arms.specs.Arms.{arm_status}
use Rattle.head_kit.specs.Heads.{IsDecided, IsRead}
use Rattle.head_kit.specs.declared.call_head.CallTarget.TheVariants.{Operation}
use Rattle.pres.specs.Bindings.{Binding}
use Rattle.back_xdr.specs.declared.call.OncCall.{OncCall}
use Rattle.back_xdr.specs.declared.procedures.Procedure.{Procedure}
use Rattle.back_xdr.specs.Heads.{HeadKind, format}
use Rattle.back_xdr.specs.Leads.{lead, lead_length, reply_lead, reply_lead_length}
use Rattle.back_xdr.specs.Procedures.{procedure_of}
use Rattle.back_xdr.specs.Refusals.{IsOwn, refusal_octets}
use Rattle.back_xdr.specs.Seeking.{named}
use Rattle.back_xdr.specs.Reported.{BeginsCall, BeginsReply, shared_head}
use Rattle.head_kit.specs.Words.{IsWord}

-- each message begins with a head or stops with a fault, one of the two, and which head and which fault is determined
abbrev pub HeadsAreDecided : Type 0
HeadsAreDecided = (w : HeadKind) (message : List ℕ) → AreOctets message → IsDecided (format w) message

-- what is read is spelled, and where reading stops there is the fault
abbrev pub HeadsAreRead : Type 0
HeadsAreRead = (w : HeadKind) → IsRead (format w)

-- the procedure that a call calls
abbrev pub called_by : OncCall → Procedure
called_by c = record { program = c.program; version = c.version; number = c.proc_no }

-- the operation that a call names is the procedure that it calls
abbrev pub IsNamedRight : Type 0
IsNamedRight = (b : Binding) (c : OncCall) (op : ℕ) → named b c ≡ Operation op → procedure_of b op ≡ called_by c

-- numbers that words can hold
abbrev pub AreWords : Procedure → Type 0
AreWords p = IsWord p.program × IsWord p.version × IsWord p.number

-- what is reported of the head that is sent of a procedure
abbrev pub call_of : Procedure → ℕ → OncCall
call_of p id = record { head = shared_head id; program = p.program; version = p.version; proc_no = p.number; used = lead_length }

-- the head that is sent is read as the call of its procedure, whatever follows
abbrev pub LeadsAreRead : Type 0
LeadsAreRead = (p : Procedure) (id : ℕ) (o : List ℕ) → IsWord id → AreWords p → BeginsCall (lead p id ++ o) (call_of p id)

-- what is reported of the head of a reply with an arm
abbrev pub reply_of : ℕ → ℕ → ℕ → ReplyHead
reply_of arms arm id = record { head = shared_head id; status = arm_status arm; used = reply_lead_length arms }

-- the head that is sent of a reply is read as the reply with that arm, whatever follows
abbrev pub RepliesAreRead : Type 0
RepliesAreRead = (arms arm id : ℕ) (o : List ℕ) → IsWord id → IsWord arm → arm ≤ arms
    → BeginsReply arms (reply_lead arms arm id ++ o) (reply_of arms arm id)

-- the heads of one procedure, whatever their transactions and arms, have one length
pub record HaveOneLength (p : Procedure) (arms : ℕ) : Type 0 where
  pub calls : (id : ℕ) → length (lead p id) ≡ lead_length
  pub replies : (arm id : ℕ) → length (reply_lead arms arm id) ≡ reply_lead_length arms

-- so it is of each procedure
abbrev pub LeadsHaveOneLength : Type 0
LeadsHaveOneLength = (p : Procedure) (arms : ℕ) → HaveOneLength p arms

-- the refusals of this format are those that have octets
abbrev pub OwnHaveOctets : Type 0
OwnHaveOctets = (r : Refusal) (id : ℕ) → IsOwn r ↔ ((o : List ℕ) × (refusal_octets id r ≡ Some o))
