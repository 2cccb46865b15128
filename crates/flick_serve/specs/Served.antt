-- The answers of `serve`: the replies to messages, by the replies that a file gives.
use Rattle.std.specs.Prelude.{◌≡◌, true, ℕ, List, Option, Some, None, Result, Ok, Err, codes}
use Rattle.hex.specs.Hex.{decode_of, encode_lower}
use Rattle.hex.specs.declared.error.FromHexError.{FromHexError}
use Rattle.mint.specs.Blank.{blank}
use Rattle.mint.specs.Types.{Ty}
use Rattle.mint.specs.Values.{Val}
use Rattle.pres.specs.Bindings.{Binding}
use Rattle.skeleton.specs.TableSkeleton.{Places, IsKept}
use Rattle.stub_codes.specs.Stubs.{Coded}
use Rattle.flick_engine.specs.Replies.{reply_type}
use Rattle.flick_engine.specs.Serving.{gives, Serves}
use Rattle.flick_serve.specs.declared.serving.WrongReplies.{WrongReplies}
use Rattle.flick_serve.specs.Given.{Given, given_at, given_in, FileGives}

-- a reply, or else the blank one of a type
abbrev pub or_blank : Ty → Option Val → Val
or_blank t None = blank t
or_blank t (Some v) = v

-- what an operation answers, whatever it is called with: the reply that is given, or else the blank one
abbrev pub answer_of : Binding → Given → ℕ → Val
answer_of b g op = or_blank (reply_type b op) (given_at g op)

-- a reply in hexadecimal digits, or a dash where there is none
abbrev pub reply_text : Option (List ℕ) → List ℕ
reply_text None = codes "-"
reply_text (Some o) = encode_lower o

-- the answer to what hexadecimal digits spell, by the answers of the operations, where faults are answered in a version
abbrev pub IsOfMessage : Binding → ℕ → (ℕ → Val) → Result (List ℕ) FromHexError → List ℕ → Type 0
IsOfMessage b m answer (Err e) a = a ≡ codes "! hex"
IsOfMessage b m answer (Ok message) a =
    (x : Option (List ℕ)) × Serves b m (gives (λ op request. answer op)) message x × (a ≡ reply_text x)

-- the answer to a line as the digits of a message, without its line feed, by the replies of a file
abbrev pub IsServed : Binding → ℕ → List ℕ → List ℕ → List ℕ → Type 0
IsServed b m text line a = (g : Given) × FileGives b text (Ok g) × IsOfMessage b m (answer_of b g) (decode_of line) a

-- ---- servers

-- a binding with the code of its operations, and the text of a file of replies
pub record Serving : Type 0 where
  pub coded : Coded
  pub text : List ℕ

-- a table has the replies that the file gives, each one of its operation
pub record IsServing (s : Serving) (places : Places) : Type 0 where
  pub given : FileGives s.coded.binding s.text (Ok (given_in places))
  pub kept : IsKept (record { binding = s.coded.binding; replies = places })
  pub answers : s.coded.answers ≡ true

-- a server, or a wrong line, is what a file gives: replies, or the number of that line
abbrev pub AgreesWith : Result Serving WrongReplies → Result Given ℕ → Type 0
AgreesWith (Ok s) (Ok g) = Unit {0}
AgreesWith (Err wrong) (Err k) = wrong.line.0 ≡ k
AgreesWith _ _ = ⊥
