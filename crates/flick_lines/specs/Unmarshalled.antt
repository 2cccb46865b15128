-- The answers of `unmarshal` and `unreply`: the request records of messages, and the reply records of messages as replies.
use Rattle.std.specs.Prelude.{◌≡◌, ℕ, ◌+◌, ◌==◌, List, [], ◌++◌, take, drop, slice_get, Option, Some, None, Result, Ok, Err, codes, decimal}
use Rattle.std.specs.List.{position}
use Rattle.hex.specs.Hex.{decode_of}
use Rattle.hex.specs.declared.error.FromHexError.{FromHexError}
use Rattle.serde_json.specs.Data.{Members}
use Rattle.serde_json.specs.Written.{compact_text}
use Rattle.wire_def.specs.declared.fault.FaultKind.{FaultKind}
use Rattle.wire_def.specs.declared.fault.FaultKind.TheVariants as kinds
use Rattle.wire_def.specs.declared.fault.HeadErr.{HeadErr}
use Rattle.wire_def.specs.declared.fault.HeadErr.TheVariants as faults
use Rattle.pres.specs.declared.ops.Op.{Op}
use Rattle.pres.specs.Bindings.{Binding}
use Rattle.pres.specs.Faces.{Face, face_at}
use Rattle.pres.specs.Raises.{raises}
use Rattle.aoi.specs.Plain.{PlainRaise}
use Rattle.json_shape.specs.declared.errors.RecordErr.TheVariants as errors
use Rattle.json_shape.specs.Operations.{replying}
use Rattle.json_shape.specs.Replies.{answer_members, refused_members, reply_with}
use Rattle.json_shape.specs.Requests.{request_json}
use Rattle.flick_engine.specs.declared.errors.MessageErr.{MessageErr}
use Rattle.flick_engine.specs.declared.errors.MessageErr.TheVariants as err
use Rattle.flick_engine.specs.Received.{Asked, ReadCall}
use Rattle.flick_engine.specs.RepliesReceived.{Came, answered, refused, Replied, ReadReply}
use Rattle.flick_lines.specs.Marshalled.{record_refusal}

-- the word of a head's fault
abbrev pub head_name : HeadErr → List ℕ
head_name faults.Short = codes "Short"
head_name faults.Magic = codes "Magic"
head_name faults.Version = codes "Version"
head_name faults.Type_ = codes "Type"
head_name faults.Size = codes "Size"
head_name faults.Order = codes "Order"
head_name faults.Pad = codes "Pad"
head_name faults.Text = codes "Text"
head_name faults.Cred = codes "Cred"
head_name faults.Complex = codes "Complex"
head_name faults.Item = codes "Item"
head_name faults.Target = codes "Target"

-- the word of a body's fault
abbrev pub kind_name : FaultKind → List ℕ
kind_name kinds.Short = codes "Short"
kind_name kinds.OverBound = codes "OverBound"
kind_name kinds.BadValue = codes "BadValue"
kind_name kinds.BadPad = codes "BadPad"
kind_name kinds.BadText = codes "BadText"
kind_name kinds.BadItem = codes "BadItem"

-- the refusal of octets that are no message of the binding
abbrev pub message_refusal : MessageErr → List ℕ
message_refusal err.Long = codes "! long"
message_refusal (err.Head e) = codes "! head " ++ head_name e
message_refusal err.NoInterface = codes "! interface"
message_refusal err.NoOperation = codes "! operation"
message_refusal (err.Body f) = codes "! body " ++ kind_name f.kind ++ codes " " ++ decimal f.at
message_refusal (err.Trailing at) = codes "! trailing " ++ decimal at
message_refusal err.NoMemory = codes ""

-- the refusal of a message, or the text of the record that it is
abbrev pub answer_text : {R : Type 0} → (R → List ℕ) → Result R MessageErr → List ℕ
answer_text record_of (Err e) = message_refusal e
answer_text record_of (Ok r) = record_of r

-- the answer to what hexadecimal digits spell, by what messages are and by the texts of their records
abbrev pub IsOfOctets : {R : Type 0} → (List ℕ → Result R MessageErr → Type 0) → (R → List ℕ)
    → Result (List ℕ) FromHexError → List ℕ → Type 0
IsOfOctets Reads record_of (Err e) a = a ≡ codes "! hex"
IsOfOctets {R} Reads record_of (Ok message) a =
    (x : Result R MessageErr) × Reads message x × (a ≡ answer_text record_of x)

-- ---- calls

-- the record of a request for the operation
abbrev pub record_text : Binding → Option Op → Asked → List ℕ
record_text b None r = []
record_text b (Some op) r = compact_text (request_json b op r.head r.value)

-- the request record of what a message asks, without blanks
abbrev pub request_text : Binding → Asked → List ℕ
request_text b r = record_text b (slice_get b.ops r.op) r

-- the answer to a line as the digits of a call, without its line feed
abbrev pub IsUnmarshalled : Binding → List ℕ → List ℕ → Type 0
IsUnmarshalled b line a = IsOfOctets (ReadCall b) (request_text b) (decode_of line) a

-- ---- replies

-- the members of what a call came to
abbrev pub came_members : List PlainRaise → Face → Came → Members
came_members rs f (answered v) = answer_members rs f v
came_members rs f (refused why) = refused_members why

-- the record of a reply to the operation of this number
abbrev pub replied_text : Binding → ℕ → Option Op → Replied → List ℕ
replied_text b k None r = []
replied_text b k (Some op) r =
    compact_text (reply_with b op r.head (came_members (raises b k) (face_at b.nodes b.shapes op.reply) r.came))

-- the reply record of what a message is as a reply to an operation, without blanks
abbrev pub reply_text : Binding → ℕ → Replied → List ℕ
reply_text b k r = replied_text b k (slice_get b.ops k) r

-- the answer to digits after the name of an operation that has a reply, or of none
abbrev pub IsOfReply : Binding → Option ℕ → List ℕ → List ℕ → Type 0
IsOfReply b None digits a = a ≡ record_refusal errors.Op
IsOfReply b (Some k) digits a = IsOfOctets (ReadReply b k) (reply_text b k) (decode_of digits) a

-- the answer to a line by its first space: the name is before it, the digits are after it
abbrev pub IsParted : Binding → List ℕ → Option ℕ → List ℕ → Type 0
IsParted b line None a = a ≡ record_refusal errors.Request
IsParted b line (Some n) a = IsOfReply b (replying b (take n line)) (drop (n + 1) line) a

-- the answer to a line as the name of an operation, a space and the digits of a reply to it
abbrev pub IsUnreplied : Binding → List ℕ → List ℕ → Type 0
IsUnreplied b line a = IsParted b line (position (λ o. o == 32) line) a
