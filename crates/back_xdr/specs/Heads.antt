-- The heads of calls and of replies.
use Rattle.std.specs.Prelude.{ℕ, List}
use Rattle.wire_def.specs.declared.fault.HeadErr.{HeadErr}
use Rattle.head_kit.specs.Heads as heads
use Rattle.head_kit.specs.Heads.{Format}
use Rattle.back_xdr.specs.Call.{Call, CallSpells, CallStops, read_head_of_call}
use Rattle.back_xdr.specs.Reply.{Reply, ReplySpells, ReplyStops, read_head_of_reply}

-- which of the two is read; a reply is to a procedure that raises so many exceptions
pub data HeadKind : Type 0 where
  call : HeadKind
  reply : ℕ → HeadKind

-- the fields of its head
abbrev pub HeadOf : HeadKind → Type 0
HeadOf call = Call
HeadOf (reply arms) = Reply

-- the format of its head
abbrev pub format : (w : HeadKind) → Format (HeadOf w)
format call = record { read = read_head_of_call; Spells = CallSpells; Stops = CallStops }
format (reply arms) = record { read = read_head_of_reply arms; Spells = ReplySpells arms; Stops = ReplyStops arms }

-- the first octets of a message, so many, are this head
abbrev pub BeginsWith : (w : HeadKind) → List ℕ → HeadOf w → ℕ → Type 0
BeginsWith w message = heads.BeginsWith (format w) message

-- a message stops with this fault, at some place
abbrev pub StopsWith : HeadKind → List ℕ → HeadErr → Type 0
StopsWith w message = heads.StopsWith (format w) message
