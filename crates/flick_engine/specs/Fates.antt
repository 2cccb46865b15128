-- How calls fare, by the heads of their replies.
use Rattle.std.specs.Prelude.{Bool, true, false, ◌&&◌, not, nat_lt, ℕ, List, length, Option, None, Some, is_some}
use Rattle.std.specs.List.{position_from}
use Rattle.std.specs.Str.{bytes_eq}
use Rattle.wire_def.specs.declared.encoding.Encoding.{Encoding}
use Rattle.wire_def.specs.declared.head.Head.{Head}
use Rattle.wire_def.specs.declared.outcome.Refusal.{Refusal}
use Rattle.wire_def.specs.declared.outcome.Refusal.TheVariants as refusal
use Rattle.wire_def.specs.declared.reply.Status.{Status}
use Rattle.wire_def.specs.declared.reply.Status.TheVariants as status
use Rattle.giop_head.specs.Reply as giop
use Rattle.flick_engine.specs.declared.replies.Fate.{Fate}
use Rattle.flick_engine.specs.declared.replies.Fate.TheVariants.{Arm, Refused}

-- what the head of a reply says: the fields that back ends share, how the call fared, how the body is laid out, and where it begins
pub record Heard : Type 0 where
  pub head : Head
  pub fate : Fate
  pub encoding : Encoding
  pub used : ℕ

-- the arm of an exception by its number from 1, or a refusal by one that is not raised
abbrev pub raised_at : List ℕ → Option ℕ → Fate
raised_at id None = Refused (refusal.UserException id)
raised_at id (Some k) = Arm k

-- a user exception is the first of the operation's exceptions that has its repository id
abbrev pub raised : List (List ℕ) → List ℕ → Fate
raised ids id = raised_at id (position_from (bytes_eq id) 1 ids)

-- nothing may follow a refusal, but for the members of an exception that is not raised: they are not looked at
abbrev pub is_alone : Refusal → Bool
is_alone (refusal.UserException id) = false
is_alone _ = true

-- the status of a reply, where the operation raises exceptions with these ids
abbrev pub fate_of : List (List ℕ) → Status → Fate
fate_of ids status.Answer = Arm 0
fate_of ids status.ProgUnavail = Refused refusal.ProgUnavail
fate_of ids (status.ProgMismatch low high) = Refused (refusal.ProgMismatch low high)
fate_of ids status.ProcUnavail = Refused refusal.ProcUnavail
fate_of ids status.GarbageArgs = Refused refusal.GarbageArgs
fate_of ids status.SystemErr = Refused refusal.SystemErr
fate_of ids (status.RpcMismatch low high) = Refused (refusal.RpcMismatch low high)
fate_of ids (status.AuthError why) = Refused (refusal.AuthError why)
fate_of ids (status.User id) = raised ids id.now
fate_of ids (status.Raised k) = Arm k
fate_of ids (status.System id minor completion) = Refused (refusal.SystemException id.now minor completion)
fate_of ids (status.RetCode code) = Refused (refusal.RetCode code)

-- the id of an exception is kept: that of one that the operation does not raise, or of a system exception
abbrev pub copies_id : List (List ℕ) → Status → Bool
copies_id ids (status.User id) = not (is_some (position_from (bytes_eq id.now) 1 ids))
copies_id ids (status.System id minor completion) = true
copies_id ids _ = false

-- the status of a GIOP reply
abbrev pub giop_fate : List (List ℕ) → giop.Fate → Fate
giop_fate ids giop.answer = Arm 0
giop_fate ids (giop.user id) = raised ids id
giop_fate ids (giop.system id minor completion) = Refused (refusal.SystemException id minor completion)

-- a reply that fared so takes memory to read: the value of an arm, or the id of an exception, which is kept
abbrev pub takes_memory : Fate → Bool
takes_memory (Arm k) = true
takes_memory (Refused (refusal.UserException id)) = true
takes_memory (Refused (refusal.SystemException id minor completion)) = true
takes_memory (Refused _) = false

-- octets of a message follow a refusal, of a head of so many octets, that nothing may follow
abbrev pub is_followed : Refusal → ℕ → List ℕ → Bool
is_followed why used o = is_alone why && nat_lt used (length o)
