-- The answers of `count`: the messages of request records, each with what the code of its operation costs that makes it.
use Rattle.std.specs.Prelude.{◌≡◌, ◌<◌, ℕ, List, [], ◌++◌, length, nat_le, if◌then◌else◌, Option, Some, None, option_map, unwrap_or, codes, decimal}
use Rattle.kit_base.specs.Limits.{longest_message}
use Rattle.hex.specs.Hex.{encode_lower}
use Rattle.mint.specs.Typed.{IsWellTyped}
use Rattle.mint.specs.Values.{Val}
use Rattle.wire_def.specs.declared.head.Head.{Head}
use Rattle.raw_buf.specs.declared.tally.Tally.{Tally}
use Rattle.raw_buf.specs.Buf.{Buf, none}
use Rattle.cast_stub.specs.Puts.{IsHead}
use Rattle.stub_machine.specs.Sending.{paid}
use Rattle.stub_codes.specs.declared.stub.Stub.{Stub}
use Rattle.stub_codes.specs.Stubs.{Coded, sent_cost}
use Rattle.json_shape.specs.Requests.{request_of}
use Rattle.flick_engine.specs.Messages.{request_type, message}
use Rattle.flick_lines.specs.Marshalled.{Texts, IsOfTree, tree_of}

-- what the code of an operation costs that makes the message of a head and a value, where there is the code
abbrev pub counts_of : List Stub → ℕ → Head → Val → Option Tally
counts_of stubs op h v = option_map (paid none) (sent_cost stubs op h v)

-- checks, moves, stores and rows in decimal, a space before each
abbrev pub counts_text : Option Tally → List ℕ
counts_text None = []
counts_text (Some t) =
    codes " " ++ decimal t.checks ++ codes " " ++ decimal t.moves ++ codes " " ++ decimal t.stores ++ codes " " ++ decimal t.rows

-- a message in hexadecimal digits, and the counts after it, where it has at most 4,194,304 octets
abbrev pub counted_of : List ℕ → Option Tally → List ℕ
counted_of m counts = if nat_le (length m) longest_message then encode_lower m ++ counts_text counts else codes "! long"

-- the message of a call in digits, and what it costs
abbrev pub call_counted : Coded → Texts
call_counted c op h v = counted_of (message c.binding c.minor op h v) (counts_of c.stubs op h v)

-- the answer to a line as a request record, without its line feed: the message of its call, and what it costs
abbrev pub IsCounted : Coded → List ℕ → List ℕ → Type 0
IsCounted c line a = IsOfTree (request_of c.binding) (call_counted c) (tree_of line) a

-- the answer to a line, by its refusal where there is one, and otherwise by the message that is held and its counts
abbrev pub counted_in : Option (List ℕ) → Buf → List ℕ
counted_in refusal held = unwrap_or refusal (encode_lower held.done ++ counts_text (Some held.tally))

-- each message has counts: the code of each operation is there, and has a cost on each head and each value of its requests
abbrev pub AllCounted : Coded → Type 0
AllCounted c = (op : ℕ) (h : Head) (v : Val) → op < length c.binding.ops → IsHead h → IsWellTyped (request_type c.binding op) v
    → (t : Tally) × (counts_of c.stubs op h v ≡ Some t)
