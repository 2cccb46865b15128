-- Laws of the heads.
use Rattle.std.specs.Prelude.{◌≡◌, ◌↔◌, ℕ, suc, ◌+◌, ◌-◌, ◌^◌, ◌<◌, ◌≤◌, Bool, true, false, List, [], ◌++◌, length, Some}
use Rattle.wire_def.specs.Grammar.{AreOctets}
use Rattle.wire_def.specs.declared.fault.HeadErr.{HeadErr}
use Rattle.wire_def.specs.declared.head.Order.{Order}
use Rattle.wire_def.specs.declared.outcome.Refusal.{Refusal}
use Rattle.head_kit.specs.Heads.{IsDecided, IsRead}
use Rattle.giop_head.specs.Header.{IsMinor}
use Rattle.giop_head.specs.Items.{HasNoZero, PaddingStops}
use Rattle.giop_head.specs.Call.{Request}
use Rattle.giop_head.specs.Reply.{Fate, answer, user, system}
use Rattle.giop_head.specs.Printed.{request_octets, answer_octets, user_octets, system_octets, with_size, refusal_octets, IsOwn}
use Rattle.giop_head.specs.Reported.{shared_head, requested, BeginsCall, BeginsReply}
use Rattle.giop_head.specs.declared.header.HeadKind.{HeadKind}
use Rattle.giop_head.specs.Heads.{format}

-- each message begins with a head or stops with a fault, one of the two, and which head and which fault is determined
abbrev pub HeadsAreDecided : Type 0
HeadsAreDecided = (w : HeadKind) (message : List ℕ) → AreOctets message → IsDecided (format w (length message)) message

-- what is read of a message of any length is spelled, and where reading stops there is the fault
abbrev pub HeadsAreRead : Type 0
HeadsAreRead = (w : HeadKind) (n : ℕ) → IsRead (format w n)

-- octets that lead up to a body are not lacking, since the message has them: no head stops there
abbrev pub PaddingIsThere : Type 0
PaddingIsThere = (n p : ℕ) (o : List ℕ) (fault : HeadErr) (at : ℕ) → p + length o ≡ n → PaddingStops n p o fault at → ⊥

-- ---- what is sent

-- a number that an unsigned long can hold
abbrev pub IsLong : ℕ → Type 0
IsLong n = n < 2 ^ 32

-- a request whose numbers and lengths are unsigned longs
pub record IsRequest (q : Request) : Type 0 where
  pub id : IsLong q.id
  pub key : IsLong (length q.key)
  pub name : IsLong (suc (length q.name))
  pub letters : HasNoZero q.name

-- a string
abbrev pub IsString : List ℕ → Type 0
IsString s = IsLong (suc (length s)) × HasNoZero s

-- how a request may fare
abbrev pub IsFate : Fate → Type 0
IsFate answer = Unit {0}
IsFate (user s) = IsString s
IsFate (system s minor completion) = IsString s × (IsLong minor × (completion ≤ 2))

-- the head of a reply
abbrev pub reply_octets : ℕ → Order → ℕ → Fate → List ℕ
reply_octets m r id answer = answer_octets m r id
reply_octets m r id (user s) = user_octets m r id s
reply_octets m r id (system s minor completion) = system_octets m r id s minor completion

-- no octets follow where none are said to
abbrev pub MayFollow : Bool → List ℕ → Type 0
MayFollow has body = has ≡ false → body ≡ []

-- the head that is sent of a request is read as that request, whatever follows where a body is said to
abbrev pub RequestsAreRead : Type 0
RequestsAreRead = (m : ℕ) (has : Bool) (r : Order) (q : Request) (body : List ℕ) → IsMinor m → IsRequest q → MayFollow has body
    → IsLong (length (request_octets m has r q ++ body) - 12)
    → BeginsCall (with_size r (request_octets m has r q ++ body))
    (requested (shared_head q.id q.wants r) q.key q.name (length (request_octets m has r q)) m)

-- the head that is sent of a reply is read as that reply, whatever follows
abbrev pub RepliesAreRead : Type 0
RepliesAreRead = (m : ℕ) (r : Order) (id : ℕ) (f : Fate) (body : List ℕ) → IsMinor m → IsLong id → IsFate f
    → IsLong (length (reply_octets m r id f ++ body) - 12)
    → BeginsReply (with_size r (reply_octets m r id f ++ body))
    (record { head = shared_head id true r; fate = Some f; used = length (reply_octets m r id f) })

-- the refusals of this format are those that have octets
abbrev pub OwnHaveOctets : Type 0
OwnHaveOctets = (m : ℕ) (r : Order) (id : ℕ) (refusal : Refusal)
    → IsOwn refusal ↔ ((o : List ℕ) × (refusal_octets m r id refusal ≡ Some o))
