-- The heads of messages that ask, of requests alone, and of replies.
use Rattle.std.specs.Prelude.{ℕ, List, length}
use Rattle.wire_def.specs.declared.fault.HeadErr.{HeadErr}
use Rattle.head_kit.specs.Heads as heads
use Rattle.head_kit.specs.Heads.{Format}
use Rattle.giop_head.specs.declared.header.HeadKind.{HeadKind}
use Rattle.giop_head.specs.declared.header.HeadKind.TheVariants.{Asks, Requests, Replies}
use Rattle.giop_head.specs.Call.{Call, CallSpells, CallStops, read_head_of_call, Ordered, OrderedSpells, OrderedStops, read_head_of_request}
use Rattle.giop_head.specs.Reply.{Reply, ReplySpells, ReplyStops, read_head_of_reply}

-- the fields of its head
abbrev pub HeadOf : HeadKind → Type 0
HeadOf Asks = Call
HeadOf Requests = Ordered
HeadOf Replies = Reply

-- the format of its head, in a message of so many octets
abbrev pub format : (w : HeadKind) → ℕ → Format (HeadOf w)
format Asks n = record { read = read_head_of_call n; Spells = CallSpells n; Stops = CallStops n }
format Requests n = record { read = read_head_of_request n; Spells = OrderedSpells n; Stops = OrderedStops n }
format Replies n = record { read = read_head_of_reply n; Spells = ReplySpells n; Stops = ReplyStops n }

-- the first octets of a message, so many, are this head
abbrev pub BeginsWith : (w : HeadKind) → List ℕ → HeadOf w → ℕ → Type 0
BeginsWith w message = heads.BeginsWith (format w (length message)) message

-- a message stops with this fault, at some place
abbrev pub StopsWith : HeadKind → List ℕ → HeadErr → Type 0
StopsWith w message = heads.StopsWith (format w (length message)) message
