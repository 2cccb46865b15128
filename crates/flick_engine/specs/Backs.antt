-- What differs from one back end to another: the words that name it, how bodies are laid out, and the heads of calls and of replies.
use Rattle.std.specs.Prelude.{◌≡◌, ◌≤◌, ℕ, zero, suc, Bool, true, List, [], length, slice_index_or, Option, Some, None, if◌then◌else◌, codes}
use Rattle.std.specs.Str.{bytes_eq}
use Rattle.wire_def.specs.declared.encoding.Back.{Back}
use Rattle.wire_def.specs.declared.encoding.Back.TheVariants as back
use Rattle.wire_def.specs.declared.encoding.Encoding.{Encoding}
use Rattle.wire_def.specs.declared.fault.HeadErr.{HeadErr}
use Rattle.wire_def.specs.declared.head.Head.{Head}
use Rattle.wire_def.specs.declared.head.Order.{Order}
use Rattle.wire_def.specs.declared.head.Order.TheVariants.{Big, Little}
use Rattle.wire_def.specs.declared.reply.ReplyHead.{ReplyHead}
use Rattle.head_arms.specs.Arms.{arm_status}
use Rattle.head_kit.specs.declared.call_head.CallHead.{CallHead}
use Rattle.aoi.specs.Plain.{PlainInterface, PlainOperation}
use Rattle.pres.specs.Bindings.{Binding}
use Rattle.head_arms.specs.Raised.{exceptions}
use Rattle.back_xdr.specs.declared.call.OncCall.{OncCall}
use Rattle.back_xdr.specs.Heads as xdr
use Rattle.back_xdr.specs.Laws as xdr_laws
use Rattle.back_xdr.specs.Laws.{AreWords, call_of, called_by}
use Rattle.back_xdr.specs.Procedures.{procedure_of}
use Rattle.back_xdr.specs.Seeking as xdr_seeking
use Rattle.back_xdr.specs.Reported as xdr_reported
use Rattle.back_xdr.specs.Reported.{BeginsCall}
use Rattle.head_kit.specs.Words.{IsWord}
use Rattle.giop_head.specs.declared.header.HeadKind.TheVariants.{Requests, Replies}
use Rattle.giop_head.specs.Call.{Request}
use Rattle.giop_head.specs.Header.{IsMinor}
use Rattle.giop_head.specs.Heads as giop
use Rattle.giop_head.specs.Items.{laid}
use Rattle.giop_head.specs.Laws.{IsLong, IsFate, IsRequest}
use Rattle.giop_head.specs.Reply as giop_reply
use Rattle.giop_head.specs.Reported.{ReportedRequest, BeginsRequest, shared_head}
use Rattle.back_cdr.specs.Leads as cdr_leads
use Rattle.back_cdr.specs.Seeking as cdr_seeking
use Rattle.back_cdr.specs.Targets.{Target, has_body, target_of}
use Rattle.back_mach.specs.declared.call.MachCall.{MachCall}
use Rattle.back_mach.specs.Heads as mach
use Rattle.back_mach.specs.Laws as mach_laws
use Rattle.back_mach.specs.Laws.{HasPorts}
use Rattle.back_mach.specs.Leads as mach_leads
use Rattle.back_mach.specs.Routines.{routine_in, routine_of}
use Rattle.back_mach.specs.Seeking as mach_seeking
use Rattle.back_mach.specs.Reported as mach_reported
pub use Rattle.stub_codes.specs.Backs.{encoding, IsMinorOver, lead_over, lead, reply_form, reply_lead_over, reply_lead, sized, BeginsOver, Begins}
use Rattle.flick_engine.specs.declared.wire.Wire.{Wire}
use Rattle.flick_engine.specs.declared.wire.Wire.TheVariants as wires
use Rattle.flick_engine.specs.Fates.{Heard, fate_of, giop_fate}

-- the format that a word names
abbrev pub wire_of : List ℕ → Option Wire
wire_of word =
    if bytes_eq word (codes "xdr") then Some wires.Xdr else
    (if bytes_eq word (codes "cdr-be") then Some wires.CdrBig else
    (if bytes_eq word (codes "cdr-le") then Some wires.CdrLittle else
    (if bytes_eq word (codes "cdr12-be") then Some wires.Cdr12Big else
    (if bytes_eq word (codes "cdr12-le") then Some wires.Cdr12Little else
    (if bytes_eq word (codes "mach") then Some wires.Mach else None)))))

-- its back end
abbrev pub back_in : Wire → Back
back_in wires.Xdr = back.Xdr
back_in wires.CdrBig = back.CdrBig
back_in wires.CdrLittle = back.CdrLittle
back_in wires.Cdr12Big = back.CdrBig
back_in wires.Cdr12Little = back.CdrLittle
back_in wires.Mach = back.Mach

-- the version of its messages, by the minor number
abbrev pub minor_in : Wire → ℕ
minor_in wires.Cdr12Big = 2
minor_in wires.Cdr12Little = 2
minor_in _ = 0

-- ---- the heads that are received

-- the first item of a call's head that is cut off or wrong
abbrev pub Stops : Back → List ℕ → HeadErr → Type 0
Stops back.Xdr o e = xdr.StopsWith xdr.call o e
Stops back.CdrBig o e = giop.StopsWith Requests o e
Stops back.CdrLittle o e = giop.StopsWith Requests o e
Stops back.Mach o e = mach.StopsWith mach.call o e

-- a message, in either order, begins with the head of a request with this key, which is the interface's name, and the
-- name of this operation
abbrev pub AsksByName : PlainInterface → PlainOperation → List ℕ → Type 0
AsksByName i p o = (t : ReportedRequest) × BeginsRequest o t × (i.name ≡ t.key) × (p.name ≡ t.name)

-- a message begins with the head of a call that asks for this operation of this interface
abbrev pub AsksFor : Back → PlainInterface → PlainOperation → List ℕ → Type 0
AsksFor back.Xdr i p o = (c : OncCall) × BeginsCall o c
    × (called_by c ≡ record { program = i.program; version = i.version; number = p.proc_no })
AsksFor back.CdrBig i p o = AsksByName i p o
AsksFor back.CdrLittle i p o = AsksByName i p o
AsksFor back.Mach i p o = (c : MachCall) × mach_reported.BeginsCall o c × ((routine_in i p).id ≡ c.id)

-- ---- the heads that are sent, as they are received

-- the request of a target
abbrev pub request_of : Target → ℕ → Request
request_of t id = record { id = id; wants = t.wants; key = t.key; name = t.name }

-- what is reported of its head in a version and in this order, where a body follows or none does
abbrev pub reported_of : ℕ → Bool → Order → Target → ℕ → ReportedRequest
reported_of m body r t id = record {
  head = shared_head id t.wants r;
  key = t.key;
  name = t.name;
  used = length (cdr_leads.lead m body r t id);
  minor = m;
}

-- the head of a request in a version and in this order says this
abbrev pub SaysByName : ℕ → Order → Binding → ℕ → Head → CallHead → Type 0
SaysByName m r b op head c = IsMinor m × IsRequest (request_of (target_of b op) head.id)
    × (cdr_seeking.called b (reported_of m (has_body b op) r (target_of b op) head.id) ≡ c)

-- the head of an operation's call over a back end, in a version, whose numbers fit, says this
abbrev pub SaysOver : Back → Binding → ℕ → ℕ → Head → CallHead → Type 0
SaysOver back.Xdr b m op head c = IsWord head.id × AreWords (procedure_of b op)
    × (xdr_seeking.called b (call_of (procedure_of b op) head.id) ≡ c)
SaysOver back.CdrBig b m op head c = SaysByName m Big b op head c
SaysOver back.CdrLittle b m op head c = SaysByName m Little b op head c
SaysOver back.Mach b m op head c = IsWord (routine_of b op).id × HasPorts head
    × (mach_seeking.called b (mach_laws.call_of (routine_of b op) head) ≡ c)

-- the head of an operation's call, whose numbers fit, says this
abbrev pub Says : Binding → ℕ → ℕ → Head → CallHead → Type 0
Says b m op head c = SaysOver b.back b m op head c

-- ---- the heads of replies that are received

-- the id that a reply to an operation has over Mach
abbrev pub reply_id : Binding → ℕ → ℕ
reply_id b op = mach_leads.reply_id (routine_of b op).id

-- how the body of a reply in this order is laid out
abbrev pub encoding_by : Back → Order → Encoding
encoding_by back.Xdr r = encoding back.Xdr
encoding_by back.CdrBig r = laid r
encoding_by back.CdrLittle r = laid r
encoding_by back.Mach r = encoding back.Mach

-- the repository ids that replies to an operation tell apart: over CDR those of its exceptions
abbrev pub ids_over : Back → Binding → ℕ → List (List ℕ)
ids_over back.CdrBig b op = (target_of b op).ids
ids_over back.CdrLittle b op = (target_of b op).ids
ids_over _ b op = []

-- what the head of a reply says, by its status
abbrev pub heard_over : Back → Binding → ℕ → ReplyHead → Heard
heard_over k b op r =
    record { head = r.head; fate = fate_of (ids_over k b op) r.status; encoding = encoding_by k r.head.order; used = r.used }

-- the same over the back end of a binding
abbrev pub heard : Binding → ℕ → ReplyHead → Heard
heard b op r = heard_over b.back b op r

-- what the head of a GIOP reply says: its body lies in the order of its message
abbrev pub giop_heard : Binding → ℕ → giop_reply.Reply → ℕ → Heard
giop_heard b op r used =
    record { head = shared_head r.id true r.order; fate = giop_fate (target_of b op).ids r.fate; encoding = laid r.order; used = used }

-- a message, in either order, begins with the head of a GIOP reply that says this
abbrev pub RepliesInOrder : Binding → ℕ → List ℕ → Heard → Type 0
RepliesInOrder b op o t = (r : giop_reply.Reply) × (used : ℕ) × giop.BeginsWith Replies o r used × (giop_heard b op r used ≡ t)

-- a message begins with the head of a reply to an operation over a back end that says this
abbrev pub RepliesOver : Back → Binding → ℕ → List ℕ → Heard → Type 0
RepliesOver back.Xdr b op o t =
    (r : ReplyHead) × xdr_reported.BeginsReply (exceptions b op) o r × (heard_over back.Xdr b op r ≡ t)
RepliesOver back.CdrBig b op o t = RepliesInOrder b op o t
RepliesOver back.CdrLittle b op o t = RepliesInOrder b op o t
RepliesOver back.Mach b op o t =
    (r : ReplyHead) × mach_reported.BeginsReply (reply_id b op) (exceptions b op) o r × (heard_over back.Mach b op r ≡ t)

-- a message begins with the head of a reply to an operation that says this
abbrev pub BeginsReply : Binding → ℕ → List ℕ → Heard → Type 0
BeginsReply b op o t = RepliesOver b.back b op o t

-- the first item of such a head that is cut off or wrong
abbrev pub ReplyStopsOver : Back → Binding → ℕ → List ℕ → HeadErr → Type 0
ReplyStopsOver back.Xdr b op o e = xdr.StopsWith (xdr.reply (exceptions b op)) o e
ReplyStopsOver back.CdrBig b op o e = giop.StopsWith Replies o e
ReplyStopsOver back.CdrLittle b op o e = giop.StopsWith Replies o e
ReplyStopsOver back.Mach b op o e = mach.StopsWith (mach.reply (reply_id b op) (exceptions b op)) o e

-- the first item of the head of a reply to an operation that is cut off or wrong
abbrev pub ReplyStops : Binding → ℕ → List ℕ → HeadErr → Type 0
ReplyStops b op o e = ReplyStopsOver b.back b op o e

-- ---- the heads of replies that are sent, as they are received

-- the number of an arm of an operation: that of the answer, or of an exception that it raises, and one that a word holds
abbrev pub IsArmOf : Binding → ℕ → ℕ → Type 0
IsArmOf b op k = IsWord k × (k ≤ exceptions b op)

-- what the head of an ONC reply with an arm is received as
abbrev pub onc_reply_of : Binding → ℕ → ℕ → Head → ReplyHead
onc_reply_of b op k head = xdr_laws.reply_of (exceptions b op) k head.id

-- what the head of a Mach reply with an arm is received as
abbrev pub mach_reply_of : Binding → ℕ → ℕ → Head → ReplyHead
mach_reply_of b op k head = mach_laws.reply_of head.remote (arm_status k) (mach_leads.reply_lead_length (exceptions b op))

-- how a request fared that is answered, or for which an exception of its operation is raised
abbrev pub giop_fate_of : Target → ℕ → giop_reply.Fate
giop_fate_of t zero = giop_reply.answer
giop_fate_of t (suc k) = giop_reply.user (slice_index_or t.ids k [])

-- what the head of a GIOP reply in a version and in this order is received as
abbrev pub giop_answer : ℕ → Order → Target → ℕ → ℕ → giop_reply.Reply
giop_answer m r t k id = record { order = r; minor = m; id = id; fate = giop_fate_of t k }

-- the head of a GIOP reply in a version and in this order says this
abbrev pub TellsInOrder : ℕ → Order → Binding → ℕ → ℕ → Head → Heard → Type 0
TellsInOrder m r b op k head t = IsMinor m × IsLong head.id × IsFate (giop_fate_of (target_of b op) k)
    × (giop_heard b op (giop_answer m r (target_of b op) k head.id) (length (cdr_leads.reply_lead m r (target_of b op) k head.id)) ≡ t)

-- the head of a reply to an operation with an arm over a back end, in a version, whose numbers fit, says this
abbrev pub TellsOver : Back → Binding → ℕ → ℕ → ℕ → Head → Heard → Type 0
TellsOver back.Xdr b m op k head t = IsWord head.id × IsArmOf b op k × (heard_over back.Xdr b op (onc_reply_of b op k head) ≡ t)
TellsOver back.CdrBig b m op k head t = TellsInOrder m Big b op k head t
TellsOver back.CdrLittle b m op k head t = TellsInOrder m Little b op k head t
TellsOver back.Mach b m op k head t = HasPorts head × IsArmOf b op k × (heard_over back.Mach b op (mach_reply_of b op k head) ≡ t)

-- the head of a reply to an operation with an arm, whose numbers fit, says this
abbrev pub Tells : Binding → ℕ → ℕ → ℕ → Head → Heard → Type 0
Tells b m op k head t = TellsOver b.back b m op k head t
