-- The answers to the items of an input.
use Rattle.std.specs.Prelude.{◌≡◌, ℕ, List, [], ◌∷◌, ◌++◌, length, Bool, true, false, ◌||◌, ◌==◌, codes, flat_map, map, unwrap_or, Result, Ok, Err}
use Rattle.hex.specs.Hex.{decode_of, encode_lower}
use Rattle.hex.specs.declared.error.FromHexError.{FromHexError}
use Rattle.kit_base.specs.declared.lines.Line.{Line}
use Rattle.kit_base.specs.declared.lines.Line.TheVariants.{Text, Long, End}
use Rattle.wire_def.specs.declared.encoding.Back.{Back}
use Rattle.wire_frames.specs.declared.frames.FrameErr.{FrameErr}
use Rattle.wire_frames.specs.declared.frames.FrameErr.TheVariants as frames
use Rattle.wire_frames.specs.declared.messages.Part.{Part}
use Rattle.wire_frames.specs.declared.messages.Part.TheVariants as part
use Rattle.wire_frames.specs.Framed.{head_of}
use Rattle.stub_codes.specs.Stubs.{Coded}
use Rattle.raw_buf.specs.Buf.{Buf}
use Rattle.flick_lines.specs.declared.verb.Verb.{Verb}
use Rattle.flick_lines.specs.declared.verb.Verb.TheVariants.{Marshal, Unmarshal}
use Rattle.flick_lines.specs.Sent.{Sending, nothing, IsSentTo, Sends}
use Rattle.flick_lines.specs.Verbs.{IsAnswerTo}
use Rattle.flick_bridge.specs.Bridged.{IsBridged}
use Rattle.flick_serve.specs.Served.{IsServed}
use Rattle.flick_serve.specs.Spent.{IsServeSent}
use Rattle.flick_top.specs.declared.job.Job.{Job}
use Rattle.flick_top.specs.declared.job.Job.TheVariants.{Over, Pipe, Unpipe, Serve, Bridge}
use Rattle.flick_top.specs.declared.items.Item.{Item}
use Rattle.flick_top.specs.declared.items.Item.TheVariants as items
use Rattle.flick_top.specs.Items.{Cutting, by_frames, by_lines}

-- the engine of a job
abbrev pub engine_in : Job → Coded
engine_in (Over verb e) = e
engine_in (Pipe e) = e
engine_in (Unpipe e) = e
engine_in (Serve s) = s.coded
engine_in (Bridge s) = s.from

-- an answer: its octets, whether it is a refusal, and what was sent for it
pub record Answer : Type 0 where
  pub octets : List ℕ
  pub refused : Bool
  pub sent : Sending

-- an answer that begins with `!`
abbrev pub is_refusal : List ℕ → Bool
is_refusal [] = false
is_refusal (x ∷ xs) = x == 33

-- these octets as an answer, which is a refusal where it begins with `!`
abbrev pub answer_of : List ℕ → Sending → Answer
answer_of octets sent = record { octets = octets; refused = is_refusal octets; sent = sent }

-- the text that answers the octets of a line, without its line feed: under `pipe` that of `marshal`
abbrev pub IsTextTo : Job → List ℕ → List ℕ → Type 0
IsTextTo (Over verb e) octets text = IsAnswerTo verb e octets text
IsTextTo (Pipe e) octets text = IsAnswerTo Marshal e octets text
IsTextTo (Unpipe e) octets text = IsAnswerTo Unmarshal e octets text
IsTextTo (Serve s) octets text = IsServed s.coded.binding s.coded.minor s.text octets text
IsTextTo (Bridge s) octets text = IsBridged s octets text

-- what is sent for it
abbrev pub IsSentFor : Job → List ℕ → Sending → Type 0
IsSentFor (Over verb e) octets sent = IsSentTo verb e octets sent
IsSentFor (Pipe e) octets sent = IsSentTo Marshal e octets sent
IsSentFor (Unpipe e) octets sent = IsSentTo Unmarshal e octets sent
IsSentFor (Serve s) octets sent = IsServeSent s octets sent
-- a bridge makes its messages elsewhere
IsSentFor (Bridge s) octets sent = sent ≡ nothing

-- a message as it stands in a stream
abbrev pub framed : Back → List ℕ → List ℕ
framed back message = unwrap_or (head_of back (length message)) [] ++ message

-- the frame of the message that hexadecimal digits spell, and nothing where they spell none
abbrev pub frame_of : Back → Result (List ℕ) FromHexError → List ℕ
frame_of back (Ok message) = framed back message
frame_of back (Err e) = []

-- what is written for the text that answers a line: under `pipe` the frame of the message whose digits it is, else the text with a line feed
abbrev pub written_of : Job → List ℕ → List ℕ
written_of (Pipe e) text = frame_of e.binding.back (decode_of text)
written_of _ text = text ++ 10 ∷ []

-- the answer by such a text, which is a refusal where it begins with `!`
abbrev pub answer_by : Job → List ℕ → Sending → Answer
answer_by job text sent = record { octets = written_of job text; refused = is_refusal text; sent = sent }

-- the answer of a job to a line
abbrev pub IsLineAnswer : Job → Line → Answer → Type 0
IsLineAnswer job (Text octets) a = (text : List ℕ) × (sent : Sending) × IsTextTo job octets text × IsSentFor job octets sent
    × (a ≡ answer_by job text sent)
IsLineAnswer job Long a = a ≡ answer_by job (codes "! long") nothing
IsLineAnswer job End a = a ≡ answer_of [] nothing

-- the word of a fault of a stream
abbrev pub frame_name : FrameErr → List ℕ
frame_name frames.Magic = codes "Magic"
frame_name frames.Size = codes "Size"
frame_name frames.TooLong = codes "TooLong"
frame_name frames.NoMemory = codes "NoMemory"

-- the line of a stream that has no more messages, by a word
abbrev pub frame_refusal : List ℕ → List ℕ
frame_refusal word = codes "! frame " ++ (word ++ 10 ∷ [])

-- the line that answers a part of a stream: to a message that of `unmarshal` to its digits
abbrev pub IsPartLine : Coded → Part → List ℕ → Type 0
IsPartLine e (part.Message message) o = (text : List ℕ) × IsAnswerTo Unmarshal e (encode_lower message) text × (o ≡ text ++ 10 ∷ [])
IsPartLine e (part.Fault fault) o = o ≡ frame_refusal (frame_name fault)
IsPartLine e part.Cut o = o ≡ frame_refusal (codes "Cut")

-- the answer of a job to an item
abbrev pub IsAnswer : Job → Item → Answer → Type 0
IsAnswer job (items.Line line) a = IsLineAnswer job line a
IsAnswer job (items.Part p) a = (o : List ℕ) × IsPartLine (engine_in job) p o × (a ≡ answer_of o nothing)

-- an answer to each item
abbrev pub Answering : Type 0
Answering = Item → Answer

-- each answer is the answer to its item
abbrev pub IsAnswering : Job → Answering → Type 0
IsAnswering job f = (item : Item) → IsAnswer job item (f item)

-- the input of a job is a raw stream
abbrev pub reads_stream : Job → Bool
reads_stream (Unpipe e) = true
reads_stream _ = false

-- how the input of a job is cut into items
abbrev pub cutting_of : Job → Cutting
cutting_of (Unpipe e) = by_frames e.binding.back
cutting_of _ = by_lines

-- ---- items in order

-- the octets of the answers
abbrev pub answers : Answering → List Item → List ℕ
answers f items = flat_map (λ i. (f i).octets) items

-- one of the answers is a refusal
abbrev pub refuses : Answering → List Item → Bool
refuses f [] = false
refuses f (i ∷ items) = (f i).refused || refuses f items

-- what was sent for the answers
abbrev pub sent_for : Answering → List Item → List Sending
sent_for f items = map (λ i. (f i).sent) items

-- ---- in a buffer

-- of what a job sends the cost is known exactly; of what is sent in answer to a call at least the cost of its reply
abbrev pub is_exact : Job → Bool
is_exact (Over verb e) = true
is_exact (Pipe e) = true
is_exact (Unpipe e) = true
is_exact (Serve s) = false
is_exact (Bridge s) = true

-- what becomes of a buffer where the octets of a line are answered
abbrev pub SendsFor : Job → List ℕ → Buf → Buf → Type 0
SendsFor job octets old new = (sent : Sending) × IsSentFor job octets sent × Sends (is_exact job) sent old new

-- these octets are written for the octets of a line, and they are a refusal or not
abbrev pub IsWrittenFor : Job → List ℕ → List ℕ → Bool → Type 0
IsWrittenFor job octets o refused =
    (text : List ℕ) × IsTextTo job octets text × (o ≡ written_of job text) × (refused ≡ is_refusal text)

-- these octets are the answer of a verb to the octets of a line, with a line feed, and they are a refusal or not
abbrev pub IsVerbAnswer : Verb → Coded → List ℕ → List ℕ → Bool → Type 0
IsVerbAnswer verb e octets o refused =
    (text : List ℕ) × IsAnswerTo verb e octets text × (o ≡ text ++ 10 ∷ []) × (refused ≡ is_refusal text)

-- these octets are written for the octets of a line under `pipe`, and they are a refusal or not
abbrev pub IsPiped : Coded → List ℕ → List ℕ → Bool → Type 0
IsPiped e octets o refused =
    (text : List ℕ) × IsAnswerTo Marshal e octets text × (o ≡ frame_of e.binding.back (decode_of text)) × (refused ≡ is_refusal text)

-- these octets answer an item, and are a refusal or not; and what is sent for it becomes of a buffer
abbrev pub AnswersIn : Job → Item → List ℕ → Bool → Buf → Buf → Type 0
AnswersIn job item o refused old new =
    (a : Answer) × IsAnswer job item a × (a.octets ≡ o) × (a.refused ≡ refused) × Sends (is_exact job) a.sent old new
