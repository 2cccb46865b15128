-- What is sent of the lines of `serve`, and what the buffer then holds and has spent.
use Rattle.std.specs.Prelude.{◌≡◌, ◌⊎◌, ℕ, true, false, List, [], Option, Some, unwrap_or, Result, Ok, Err}
use Rattle.hex.specs.Hex.{decode_of}
use Rattle.hex.specs.declared.error.FromHexError.{FromHexError}
use Rattle.mint.specs.Values.{Val}
use Rattle.raw_buf.specs.Buf.{Buf}
use Rattle.cast_stub.specs.Meaning.{Cost, no_cost}
use Rattle.head_kit.specs.declared.call_head.CallHead.{CallHead}
use Rattle.stub_codes.specs.Stubs.{Coded}
use Rattle.flick_engine.specs.Backs.{Begins}
use Rattle.flick_engine.specs.Costs.{answer_cost}
use Rattle.flick_engine.specs.Received.{Asked, IsShort, ReadCall}
use Rattle.flick_engine.specs.Refusals.{reply_head}
use Rattle.flick_engine.specs.Replies.{reply_message}
use Rattle.flick_engine.specs.Serving.{gives, is_answered, Serves}
use Rattle.flick_lines.specs.Sent.{Sending, nothing, sends, Sends}
use Rattle.flick_serve.specs.Given.{Given, FileGives}
use Rattle.flick_serve.specs.Served.{Serving, answer_of}

-- the message of the reply to a request, in its version, by the answers of the operations
abbrev pub reply_to : Coded → (ℕ → Val) → CallHead → Asked → List ℕ
reply_to c answer call r = reply_message c.binding call.minor r.op (reply_head c.binding.back call.head) (answer r.op)

-- what the code costs that makes it
abbrev pub cost_to : Coded → (ℕ → Val) → CallHead → Asked → Option Cost
cost_to c answer call r = answer_cost c.stubs call.minor r.op (reply_head c.binding.back call.head) (answer r.op)

-- a message is a request, to a call that is answered, and the message of its reply is not too long
pub record IsRepliedTo (c : Coded) (answer : ℕ → Val) (o : List ℕ) (call : CallHead) (r : Asked) : Type 0 where
  pub begins : Begins c.binding o call
  pub answered : is_answered c.binding call ≡ true
  pub asks : ReadCall c.binding o (Ok r)
  pub short : IsShort (reply_to c answer call r)

-- a cost is that of the reply's code, where a message is answered by its reply; else nothing is owed
abbrev pub IsCostOf : Coded → (ℕ → Val) → List ℕ → Option Cost → Type 0
IsCostOf c answer o k =
    ((call : CallHead) × (r : Asked) × IsRepliedTo c answer o call r × (k ≡ cost_to c answer call r))
    ⊎ (((call : CallHead) (r : Asked) → ¬ IsRepliedTo c answer o call r) × (k ≡ Some no_cost))

-- what is sent in answer to what hexadecimal digits spell: a reply, or no octets where there is none, at this cost
abbrev pub IsMessageSent : Coded → (ℕ → Val) → Result (List ℕ) FromHexError → Sending → Type 0
IsMessageSent c answer (Err e) s = s ≡ nothing
IsMessageSent c answer (Ok o) s = (x : Option (List ℕ)) × (k : Option Cost)
    × Serves c.binding c.minor (gives (λ op request. answer op)) o x × IsCostOf c answer o k × (s ≡ sends (unwrap_or x []) k)

-- what is sent in answer to a line, by the replies of a file
abbrev pub IsServeSent : Serving → List ℕ → Sending → Type 0
IsServeSent s line sending = (g : Given) × FileGives s.coded.binding s.text (Ok g)
    × IsMessageSent s.coded (answer_of s.coded.binding g) (decode_of line) sending

-- what becomes of a buffer where what digits spell is answered: it holds what is sent, and spent at least what that costs
abbrev pub IsMessagePaid : Coded → (ℕ → Val) → Result (List ℕ) FromHexError → Buf → Buf → Type 0
IsMessagePaid c answer spelled old new = (s : Sending) × IsMessageSent c answer spelled s × Sends false s old new

-- the same of a line, by the replies of a file
abbrev pub IsServePaid : Serving → List ℕ → Buf → Buf → Type 0
IsServePaid s line old new = (sending : Sending) × IsServeSent s line sending × Sends false sending old new
