-- What is sent of lines under `marshal`, `count` and `reply`, and what a buffer spends and holds that it is sent in.
use Rattle.std.specs.Prelude.{◌≡◌, ◌⊎◌, ℕ, Bool, true, List, [], ◌∷◌, length, nat_le, if◌then◌else◌, Option, Some, None, unwrap_or, IfSome, IsSomeAnd, Result, Ok, Err}
use Rattle.kit_base.specs.Limits.{longest_message}
use Rattle.mint.specs.Values.{Val}
use Rattle.wire_def.specs.declared.head.Head.{Head}
use Rattle.raw_buf.specs.declared.tally.Tally.{Tally}
use Rattle.raw_buf.specs.Buf.{Buf, NoneFell}
use Rattle.cast_stub.specs.Meaning.{Cost, no_cost, sum}
use Rattle.stub_machine.specs.Sending.{paid}
use Rattle.stub_codes.specs.Stubs.{Coded, sent_cost}
use Rattle.serde_json.specs.Data.{Data}
use Rattle.json_shape.specs.declared.errors.RecordErr.{RecordErr}
use Rattle.json_shape.specs.Presents.{Presents}
use Rattle.json_shape.specs.Records.{Begun}
use Rattle.json_shape.specs.Replies.{reply_of}
use Rattle.json_shape.specs.Requests.{request_of}
use Rattle.flick_engine.specs.Costs.{answer_cost}
use Rattle.flick_engine.specs.Messages.{message}
use Rattle.flick_engine.specs.Replies.{reply_message}
use Rattle.flick_lines.specs.declared.verb.Verb.{Verb}
use Rattle.flick_lines.specs.declared.verb.Verb.TheVariants.{Marshal, Unmarshal, Reply, Unreply, Count}
use Rattle.flick_lines.specs.Marshalled.{Beginning, Texts, tree_of}
use Rattle.flick_lines.specs.Paid.{Costs}

-- what is sent: nothing, a message that is too long, or a message, at what the code costs that makes it
pub data Sending : Type 0 where
  nothing : Sending
  too_long : Sending
  sends : List ℕ → Option Cost → Sending

-- ---- a line

-- what is sent of an operation, a head and a value
abbrev pub Sent : Type 0
Sent = ℕ → Head → Val → Sending

-- a message, at what the code costs that makes it; or a message that is too long
abbrev pub message_sent : Texts → Costs → Sent
message_sent message cost_of op h v =
    if nat_le (length (message op h v)) longest_message then sends (message op h v) (cost_of op h v) else too_long

-- the message of a call, at what the code costs that is kept for its operation
abbrev pub call_sent : Coded → Sent
call_sent c op h v = message_sent (message c.binding c.minor) (sent_cost c.stubs) op h v

-- the message of a reply, at what the code costs that is kept for its arm
abbrev pub reply_sent : Coded → Sent
reply_sent c op h v = message_sent (reply_message c.binding c.minor) (answer_cost c.stubs c.minor) op h v

-- what is sent of a record: that of the value that it presents; nothing where it presents none
abbrev pub IsSentOnce : Sent → Begun → Sending → Type 0
IsSentOnce sent r s =
    ((v : Val) × Presents r.face r.tree v × (s ≡ sent r.op r.head v))
    ⊎ (((v : Val) → ¬ Presents r.face r.tree v) × (s ≡ nothing))

-- the same of a record that begins so; nothing of what is none
abbrev pub IsSentRecord : Sent → Result Begun RecordErr → Sending → Type 0
IsSentRecord sent (Err e) s = s ≡ nothing
IsSentRecord sent (Ok r) s = IsSentOnce sent r s

-- the same of a tree, by what trees begin
abbrev pub IsSentTree : Sent → Beginning → Option Data → Sending → Type 0
IsSentTree sent begun None s = s ≡ nothing
IsSentTree sent begun (Some tree) s = IsSentRecord sent (begun tree) s

-- what is sent of the octets of a line as a request record: the message of its call
abbrev pub IsCallSent : Coded → List ℕ → Sending → Type 0
IsCallSent c line s = IsSentTree (call_sent c) (request_of c.binding) (tree_of line) s

-- what is sent of the octets of a line as a reply record: the message of its reply
abbrev pub IsReplySent : Coded → List ℕ → Sending → Type 0
IsReplySent c line s = IsSentTree (reply_sent c) (reply_of c.binding) (tree_of line) s

-- what a verb sends of the octets of a line; messages are read without sending
abbrev pub IsSentTo : Verb → Coded → List ℕ → Sending → Type 0
IsSentTo Marshal c line s = IsCallSent c line s
IsSentTo Unmarshal c line s = s ≡ nothing
IsSentTo Reply c line s = IsReplySent c line s
IsSentTo Unreply c line s = s ≡ nothing
IsSentTo Count c line s = IsCallSent c line s

-- ---- in a buffer

-- a cost that is known was paid: at least so much, and exactly so much where that is said
abbrev pub IsPaidFor : Bool → Option Cost → Tally → Tally → Type 0
IsPaidFor exact cost before now = IsSomeAnd cost (λ k. NoneFell (paid before k) now × (exact ≡ true → now ≡ paid before k))

-- what becomes of a buffer where this is sent: it holds the message, and its cost was paid
abbrev pub Sends : Bool → Sending → Buf → Buf → Type 0
Sends exact nothing old new = new ≡ old
Sends exact too_long old new = NoneFell old.spent new.spent
Sends exact (sends octets cost) old new = (new.done ≡ octets) × IsPaidFor exact cost old.spent new.spent

-- what becomes of a buffer where a verb answers the octets of a line
abbrev pub SendsTo : Verb → Coded → List ℕ → Buf → Buf → Type 0
SendsTo verb c line old new = (sent : Sending) × IsSentTo verb c line sent × Sends true sent old new

-- ---- one after the other

-- the sum of what the messages cost
abbrev pub total : List Sending → Cost
total [] = no_cost
total (nothing ∷ ss) = total ss
total (too_long ∷ ss) = total ss
total (sends octets cost ∷ ss) = sum (unwrap_or cost no_cost) (total ss)

-- each message has a cost
abbrev pub HaveCosts : List Sending → Type 0
HaveCosts [] = Unit {0}
HaveCosts (nothing ∷ ss) = HaveCosts ss
HaveCosts (too_long ∷ ss) = HaveCosts ss
HaveCosts (sends octets cost ∷ ss) = IsSomeAnd cost (λ k. HaveCosts ss)

-- no message is too long
abbrev pub AllFit : List Sending → Type 0
AllFit [] = Unit {0}
AllFit (nothing ∷ ss) = AllFit ss
AllFit (too_long ∷ ss) = ⊥
AllFit (sends octets cost ∷ ss) = AllFit ss

-- there is no message
abbrev pub SendNothing : List Sending → Type 0
SendNothing [] = Unit {0}
SendNothing (nothing ∷ ss) = SendNothing ss
SendNothing (too_long ∷ ss) = ⊥
SendNothing (sends octets cost ∷ ss) = ⊥

-- what is held after them, where that is known: the last message, or what was held before; nothing is known after one that is too long
abbrev pub held : Option (List ℕ) → List Sending → Option (List ℕ)
held before [] = before
held before (nothing ∷ ss) = held before ss
held before (too_long ∷ ss) = held None ss
held before (sends octets cost ∷ ss) = held (Some octets) ss

-- what the buffer spent rose by at least the sum of what the messages cost
pub record IsSpentBy (exact : Bool) (ss : List Sending) (old new : Buf) : Type 0 where
  pub costs : HaveCosts ss
  -- by exactly that, where that is said and no message is too long
  pub exactly : exact ≡ true → AllFit ss → new.spent ≡ paid old.spent (total ss)
  pub at_least : NoneFell (paid old.spent (total ss)) new.spent
  -- it holds the last message
  pub done : IfSome (held (Some old.done) ss) (λ octets. new.done ≡ octets)
  -- it is as it was, where there is no message
  pub unused : SendNothing ss → new ≡ old
