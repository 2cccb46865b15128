-- The heads of requests and of replies.
use Rattle.std.specs.Prelude.{ℕ, List, length}
use Rattle.wire_def.specs.declared.fault.HeadErr.{HeadErr}
use Rattle.head_kit.specs.Heads as heads
use Rattle.head_kit.specs.Heads.{Format}
use Rattle.back_mach.specs.declared.header.MachHeader.{MachHeader}
use Rattle.back_mach.specs.Header.{HeaderSpells, HeaderStops, read_header}
use Rattle.back_mach.specs.Reply.{Reply, ReplySpells, ReplyStops, read_head_of_reply}

-- which of the two is read; a reply has to have a certain id, and is to an operation that raises so many exceptions
pub data HeadKind : Type 0 where
  call : HeadKind
  reply : ℕ → ℕ → HeadKind

-- the fields of its head
abbrev pub HeadOf : HeadKind → Type 0
HeadOf call = MachHeader
HeadOf (reply id arms) = Reply

-- the format of its head, in a message of so many octets
abbrev pub format : (w : HeadKind) → ℕ → Format (HeadOf w)
format call n = record { read = read_header n; Spells = HeaderSpells n; Stops = HeaderStops n }
format (reply id arms) n =
    record { read = read_head_of_reply id arms n; Spells = ReplySpells id arms n; Stops = ReplyStops id arms n }

-- the first octets of a message, so many, are this head
abbrev pub BeginsWith : (w : HeadKind) → List ℕ → HeadOf w → ℕ → Type 0
BeginsWith w message = heads.BeginsWith (format w (length message)) message

-- a message stops with this fault, at some place
abbrev pub StopsWith : HeadKind → List ℕ → HeadErr → Type 0
StopsWith w message = heads.StopsWith (format w (length message)) message
