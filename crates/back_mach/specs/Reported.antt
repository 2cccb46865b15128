-- What is reported to callers of a head.
use Rattle.std.specs.Prelude.{ℕ, zero, suc, true, List, length}
use Rattle.std.specs.Int.{w32, cast_signed}
use Rattle.wire_def.specs.declared.head.Head.{Head}
use Rattle.wire_def.specs.declared.head.Order.TheVariants.{Big}
use Rattle.wire_def.specs.declared.reply.ReplyHead.{ReplyHead}
use Rattle.wire_def.specs.declared.reply.Status.{Status}
use Rattle.wire_def.specs.declared.reply.Status.TheVariants.{RetCode}
use Rattle.head_arms.specs.Arms.{arm_status}
use Rattle.head_kit.specs.Heads.{Begins}
use Rattle.back_mach.specs.declared.call.MachCall.{MachCall}
use Rattle.back_mach.specs.declared.header.MachHeader.{MachHeader}
use Rattle.back_mach.specs.Reply.{Reply}
use Rattle.back_mach.specs.Heads.{call, reply, format}

-- of the fields that all back ends share these heads have the two ports
abbrev pub shared_head : ℕ → ℕ → Head
shared_head remote local = record { id = 0; remote = remote; local = local; wants = true; order = Big }

-- the id of a request, by a head of so many octets
abbrev pub call_reported : MachHeader → ℕ → MachCall
call_reported h used = record { head = shared_head h.remote h.local; id = h.id; used = used }

-- behind a return code of 0 there is an arm, and any other is a refusal
abbrev pub status_of : ℕ → ℕ → Status
status_of zero arm = arm_status arm
status_of (suc m) arm = RetCode (cast_signed w32 (suc m))

-- how a request fared, by a head of so many octets
abbrev pub reply_reported : Reply → ℕ → ReplyHead
reply_reported r used = record { head = shared_head r.header.remote r.header.local; status = status_of r.code r.arm; used = used }

-- a message begins with the head of a request, of which this is reported
abbrev pub BeginsCall : List ℕ → MachCall → Type 0
BeginsCall message = Begins (format call (length message)) call_reported message

-- a message begins with the head of a reply with an id to an operation that raises so many exceptions, of which this is reported
abbrev pub BeginsReply : ℕ → ℕ → List ℕ → ReplyHead → Type 0
BeginsReply id arms message = Begins (format (reply id arms) (length message)) reply_reported message
