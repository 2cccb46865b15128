-- What is reported to callers of a head.
use Rattle.std.specs.Prelude.{ℕ, Bool, true, List, length, Option, Some, None}
use Rattle.std.specs.Borrow.{Bor}
use Rattle.wire_def.specs.declared.head.Head.{Head}
use Rattle.wire_def.specs.declared.head.Order.{Order}
use Rattle.wire_def.specs.declared.reply.ReplyHead.{ReplyHead}
use Rattle.wire_def.specs.declared.reply.Status.{Status}
use Rattle.wire_def.specs.declared.reply.Status.TheVariants.{Answer, User, System}
use Rattle.head_kit.specs.Heads.{Begins}
use Rattle.giop_head.specs.declared.header.HeadKind.TheVariants.{Asks, Requests, Replies}
use Rattle.giop_head.specs.declared.call.GiopCall.{GiopCall}
use Rattle.giop_head.specs.declared.call.GiopCall.TheVariants as calls
use Rattle.giop_head.specs.Header.{IsMinor}
use Rattle.giop_head.specs.declared.call.GiopRequest.{GiopRequest}
use Rattle.giop_head.specs.Call.{Named, Search, Call, request, search_for, addressing, Ordered}
use Rattle.giop_head.specs.Reply.{Fate, answer, user, system, Reply}
use Rattle.giop_head.specs.Heads.{format}

-- of the fields that all back ends share these heads have the id, whether a reply is wanted, and the order
abbrev pub shared_head : ℕ → Bool → Order → Head
shared_head id wants order = record { id = id; remote = 0; local = 0; wants = wants; order = order }

-- ---- calls

-- what is reported of a message that asks, with the octets of key and name: each has the minor number last, but what a target
-- of another kind than a key reports
pub data ReportedCall : Type 0 where
  requested : Head → List ℕ → List ℕ → ℕ → ℕ → ReportedCall
  sought : ℕ → List ℕ → ℕ → ReportedCall
  addressed : Head → ReportedCall

-- what is reported, with the octets in place of what is borrowed
abbrev pub call_seen : GiopCall → ReportedCall
call_seen (calls.Request head key name used minor) = requested head key.now name.now used minor
call_seen (calls.Locate id key minor) = sought id key.now minor
call_seen (calls.Addressing head) = addressed head

-- a call of a version that is read
abbrev pub HasMinor : GiopCall → Type 0
HasMinor (calls.Request head key name used minor) = IsMinor minor
HasMinor (calls.Locate id key minor) = IsMinor minor
HasMinor (calls.Addressing head) = Unit {0}

-- the octets of key and name
abbrev pub named_seen : Bor (List ℕ) × Bor (List ℕ) → Named
named_seen x = (x.0.now, x.1.now)

-- the fields of a search
abbrev pub search_seen : ℕ × Bor (List ℕ) → Search
search_seen x = record { id = x.0; key = x.1.now }

-- a request, by a head of so many octets, or a search
abbrev pub call_reported : Call → ℕ → ReportedCall
call_reported (request r m q) used = requested (shared_head q.id q.wants r) q.key q.name used m
call_reported (search_for r m s) used = sought s.id s.key m
call_reported (addressing r m s) used = addressed (shared_head s.0 s.1 r)

-- a message begins with the head of a call, of which this is reported
abbrev pub BeginsCall : List ℕ → ReportedCall → Type 0
BeginsCall message = Begins (format Asks (length message)) call_reported message

-- ---- requests alone

-- what is reported of a request, with the octets of key and name
pub record ReportedRequest : Type 0 where
  pub head : Head
  pub key : List ℕ
  pub name : List ℕ
  pub used : ℕ
  pub minor : ℕ

-- the same of a request
abbrev pub request_seen : GiopRequest → ReportedRequest
request_seen r = record { head = r.head; key = r.key.now; name = r.name.now; used = r.used; minor = r.minor }

-- a request, by a head of so many octets
abbrev pub request_reported : Ordered → ℕ → ReportedRequest
request_reported x used = record {
  head = shared_head x.request.id x.request.wants x.order;
  key = x.request.key;
  name = x.request.name;
  used = used;
  minor = x.minor;
}

-- a message begins with the head of a request, of which this is reported
abbrev pub BeginsRequest : List ℕ → ReportedRequest → Type 0
BeginsRequest message = Begins (format Requests (length message)) request_reported message

-- ---- replies

-- what is reported of a reply, with the octets of a repository id
pub record ReportedReply : Type 0 where
  pub head : Head
  pub fate : Option Fate
  pub used : ℕ

-- how a request fared; no other status is one of these messages
abbrev pub fate_seen : Status → Option Fate
fate_seen Answer = Some answer
fate_seen (User id) = Some (user id.now)
fate_seen (System id minor completion) = Some (system id.now minor completion)
fate_seen _ = None

-- the same of a reply
abbrev pub reply_seen : ReplyHead → ReportedReply
reply_seen r = record { head = r.head; fate = fate_seen r.status; used = r.used }

-- how a request fared, by a head of so many octets
abbrev pub reply_reported : Reply → ℕ → ReportedReply
reply_reported r used = record { head = shared_head r.id true r.order; fate = Some r.fate; used = used }

-- a message begins with the head of a reply, of which this is reported
abbrev pub BeginsReply : List ℕ → ReportedReply → Type 0
BeginsReply message = Begins (format Replies (length message)) reply_reported message
