-- What is reported to callers of a head.
use Rattle.std.specs.Prelude.{ℕ, true, List}
use Rattle.wire_def.specs.declared.head.Head.{Head}
use Rattle.wire_def.specs.declared.head.Order.TheVariants.{Big}
use Rattle.wire_def.specs.declared.reply.ReplyHead.{ReplyHead}
use Rattle.wire_def.specs.declared.reply.Status.{Status}
use Rattle.head_kit.specs.Heads.{Begins}
use Rattle.back_xdr.specs.declared.call.OncCall.{OncCall}
use Rattle.back_xdr.specs.Call.{Call}
use Rattle.back_xdr.specs.Reply.{Fate, accepted, denied, Reply}
use Rattle.back_xdr.specs.Heads.{call, reply, format}

-- of the fields that all back ends share these heads have the transaction alone
abbrev pub shared_head : ℕ → Head
shared_head xid = record { id = xid; remote = 0; local = 0; wants = true; order = Big }

-- the procedure that is called, by a head of so many octets
abbrev pub call_reported : Call → ℕ → OncCall
call_reported c used = record { head = shared_head c.xid; program = c.program; version = c.version; proc_no = c.procedure; used = used }

-- the status, whether it was accepted or denied
abbrev pub status_of : Fate → Status
status_of (accepted verf s) = s
status_of (denied s) = s

-- how a call fared, by a head of so many octets
abbrev pub reply_reported : Reply → ℕ → ReplyHead
reply_reported r used = record { head = shared_head r.xid; status = status_of r.fate; used = used }

-- a message begins with the head of a call, of which this is reported
abbrev pub BeginsCall : List ℕ → OncCall → Type 0
BeginsCall = Begins (format call) call_reported

-- a message begins with the head of a reply to a procedure that raises so many exceptions, of which this is reported
abbrev pub BeginsReply : ℕ → List ℕ → ReplyHead → Type 0
BeginsReply arms = Begins (format (reply arms)) reply_reported
