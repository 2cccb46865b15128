-- The answers of `marshal` and `reply`: the messages of request records, and of reply records.
use Rattle.std.specs.Prelude.{◌≡◌, ◌⊎◌, ◌≤◌, ℕ, List, length, nat_le, ◌==◌, if◌then◌else◌, slice_index, unwrap_or, Option, Some, None, Result, Ok, Err, codes}
use Rattle.std.specs.Str.Lossy.{utf8_valid_len}
use Rattle.kit_base.specs.Limits.{longest_message}
use Rattle.hex.specs.Hex.{encode_lower}
use Rattle.serde_json.specs.Data.{Data}
use Rattle.serde_json.specs.Read.{read}
use Rattle.mint.specs.Values.{Val}
use Rattle.wire_def.specs.declared.head.Head.{Head}
use Rattle.pres.specs.Bindings.{Binding}
use Rattle.json_shape.specs.declared.errors.RecordErr.{RecordErr}
use Rattle.json_shape.specs.declared.errors.RecordErr.TheVariants as errors
use Rattle.json_shape.specs.Presents.{Presents}
use Rattle.json_shape.specs.Records.{Begun}
use Rattle.json_shape.specs.Replies.{reply_of}
use Rattle.json_shape.specs.Requests.{request_of}
use Rattle.flick_engine.specs.Messages.{message}
use Rattle.flick_engine.specs.Replies.{reply_message}

-- the tree of a line, where it is JSON
abbrev pub tree_of : List ℕ → Option Data
tree_of line = if utf8_valid_len line == length line then read line else None

-- the refusal of a line whose record is none, or has no value
abbrev pub record_refusal : RecordErr → List ℕ
record_refusal errors.Request = codes "! request"
record_refusal errors.Op = codes "! op"
record_refusal errors.Head = codes "! head"
record_refusal errors.Shape = codes "! value"
record_refusal errors.NoMemory = codes ""

-- a message in hexadecimal digits, where it has at most 4,194,304 octets
abbrev pub digits_of : List ℕ → List ℕ
digits_of m = if nat_le (length m) longest_message then encode_lower m else codes "! long"

-- what a tree begins as a record, or its first refusal
abbrev pub Beginning : Type 0
Beginning = Data → Result Begun RecordErr

-- the text that answers an operation, a head and a value
abbrev pub Texts : Type 0
Texts = ℕ → Head → Val → List ℕ

-- the text of the value that the record presents, or the refusal where it presents none
abbrev pub IsMessage : Texts → Begun → List ℕ → Type 0
IsMessage text_of r a =
    ((v : Val) × Presents r.face r.tree v × (a ≡ text_of r.op r.head v))
    ⊎ (((v : Val) → ¬ Presents r.face r.tree v) × (a ≡ record_refusal errors.Shape))

-- the answer to a record that begins so, or is none
abbrev pub IsOfRecord : Texts → Result Begun RecordErr → List ℕ → Type 0
IsOfRecord text_of (Err e) a = a ≡ record_refusal e
IsOfRecord text_of (Ok r) a = IsMessage text_of r a

-- the answer to a tree, by what trees begin and by the texts of that
abbrev pub IsOfTree : Beginning → Texts → Option Data → List ℕ → Type 0
IsOfTree begun text_of None a = a ≡ codes "! json"
IsOfTree begun text_of (Some tree) a = IsOfRecord text_of (begun tree) a

-- the message of a call, in a version, in digits
abbrev pub call_digits : Binding → ℕ → Texts
call_digits b m op h v = digits_of (message b m op h v)

-- the message of a reply, in a version, in digits
abbrev pub reply_digits : Binding → ℕ → Texts
reply_digits b m op h v = digits_of (reply_message b m op h v)

-- the answer to a line as a request record, without its line feed: the message of its call in a version
abbrev pub IsMarshalled : Binding → ℕ → List ℕ → List ℕ → Type 0
IsMarshalled b m line a = IsOfTree (request_of b) (call_digits b m) (tree_of line) a

-- the answer to a line as a reply record: the message of its reply in a version
abbrev pub IsReplied : Binding → ℕ → List ℕ → List ℕ → Type 0
IsReplied b m line a = IsOfTree (reply_of b) (reply_digits b m) (tree_of line) a

-- ---- a message in a buffer

-- the answer to a line, by its refusal where there is one, and otherwise by the message that is held
abbrev pub text_in : Option (List ℕ) → List ℕ → List ℕ
text_in refusal held = unwrap_or refusal (encode_lower held)

-- a refusal, which begins with `!`, or else a message of at most 4,194,304 octets that is held
abbrev pub IsEither : Option (List ℕ) → List ℕ → Type 0
IsEither None held = length held ≤ longest_message
IsEither (Some refusal) held = slice_index refusal 0 ≡ 33
