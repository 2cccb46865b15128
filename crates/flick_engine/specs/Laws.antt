-- Laws of what messages are.
use Rattle.std.specs.Prelude.{◌≡◌, ◌<◌, ℕ, pos, List, length, Option, Result, Ok}
use Rattle.mint.specs.Sound.{IsSound}
use Rattle.mint.specs.Typed.{IsWellTyped}
use Rattle.mint.specs.Values.{Val, arm}
use Rattle.wire_def.specs.declared.head.Head.{Head}
use Rattle.wire_def.specs.Grammar.{AreOctets}
use Rattle.head_kit.specs.declared.call_head.CallHead.{CallHead}
use Rattle.head_kit.specs.declared.call_head.CallTarget.TheVariants.{Operation}
use Rattle.aoi.specs.Plain.{PlainInterface, PlainOperation}
use Rattle.pres.specs.Bindings.{Binding, IsBinding}
use Rattle.pres.specs.Faces.{type_of}
use Rattle.pres.specs.Offers.{type_faces, request_of, reply_of}
use Rattle.flick_engine.specs.declared.errors.MessageErr.{MessageErr}
use Rattle.flick_engine.specs.declared.replies.Fate.TheVariants.{Arm}
use Rattle.flick_engine.specs.Backs.{AsksFor, Begins, Says, Tells}
use Rattle.flick_engine.specs.Fates.{Heard}
use Rattle.flick_engine.specs.Messages.{request_type, message}
use Rattle.flick_engine.specs.Operations.{IsOperation}
use Rattle.flick_engine.specs.Received.{Asked, IsShort, ReadCall}
use Rattle.flick_engine.specs.Replies.{reply_type, arm_type, arm_message}
use Rattle.flick_engine.specs.RepliesReceived.{Replied, answered, ReadReply}
use Rattle.flick_engine.specs.Serving.{gives, Serves}

-- what a message is, is determined
abbrev pub IsDetermined : Type 0
IsDetermined = (b : Binding) (o : List ℕ) (x y : Result Asked MessageErr) → ReadCall b o x → ReadCall b o y → x ≡ y

-- octets are something, where the types of requests are sound
abbrev pub IsSomething : Type 0
IsSomething = (b : Binding) → ((op : ℕ) → IsSound (request_type b op))
    → (o : List ℕ) → AreOctets o → (x : Result Asked MessageErr) × ReadCall b o x

-- the message of an operation that its call names is read as the request
abbrev pub IsReadBack : Type 0
IsReadBack = (b : Binding) (m op : ℕ) (head : Head) (v : Val) (c : CallHead) → Says b m op head c → c.naming ≡ Operation op
    → IsWellTyped (request_type b op) v → IsShort (message b m op head v)
    → ReadCall b (message b m op head v) (Ok (record { op = op; head = c.head; value = v }))

-- each operation of a binding is one of its unit, and what goes into it are the parameters of that one
abbrev pub AreTheUnits : Type 0
AreTheUnits = (b : Binding) (op : ℕ) → IsBinding b → op < length b.ops
    → (i : PlainInterface) × (p : PlainOperation) × IsOperation b op i p × (request_type b op ≡ type_of (request_of (type_faces b.unit) p))

-- the operation that a message names is the one of the unit that its head asks for
abbrev pub AreAskedFor : Type 0
AreAskedFor = (b : Binding) (o : List ℕ) (c : CallHead) (op : ℕ) → Begins b o c → c.naming ≡ Operation op
    → (i : PlainInterface) × (p : PlainOperation) × IsOperation b op i p × AsksFor b.back i p o

-- what comes back from an operation is what its unit has: the answer or an exception of the one of the number
abbrev pub AreTheReplies : Type 0
AreTheReplies = (b : Binding) (op : ℕ) → IsBinding b → op < length b.ops
    → (i : PlainInterface) × (p : PlainOperation) × IsOperation b op i p
    × (reply_type b op ≡ type_of (reply_of (type_faces b.unit) p))

-- what a message is as a reply to an operation is determined
abbrev pub IsReplyDetermined : Type 0
IsReplyDetermined = (b : Binding) (op : ℕ) (o : List ℕ) (x y : Result Replied MessageErr)
    → ReadReply b op o x → ReadReply b op o y → x ≡ y

-- octets are something as a reply, where the types of the operation's arms are sound
abbrev pub IsReplySomething : Type 0
IsReplySomething = (b : Binding) (op : ℕ) → ((k : ℕ) → IsSound (arm_type b op k))
    → (o : List ℕ) → AreOctets o → (x : Result Replied MessageErr) × ReadReply b op o x

-- the message of a reply whose head tells its arm is read as the reply
abbrev pub IsReplyReadBack : Type 0
IsReplyReadBack = (b : Binding) (m op k : ℕ) (head : Head) (w : Val) (t : Heard) → Tells b m op k head t → t.fate ≡ Arm k
    → IsWellTyped (arm_type b op k) w → IsShort (arm_message b m op k head w)
    → ReadReply b op (arm_message b m op k head w) (Ok (record { head = t.head; came = answered (arm (pos k) w) }))

-- how a message is answered is determined, where the work has one reply to each request
abbrev pub IsServingDetermined : Type 0
IsServingDetermined = (b : Binding) (m : ℕ) (work : ℕ → Val → Val) (o : List ℕ) (x y : Option (List ℕ))
    → Serves b m (gives work) o x → Serves b m (gives work) o y → x ≡ y

-- then each message is answered in some way, if the types of requests are sound
abbrev pub IsServingSomething : Type 0
IsServingSomething = (b : Binding) (m : ℕ) (work : ℕ → Val → Val) → ((op : ℕ) → IsSound (request_type b op))
    → (o : List ℕ) → AreOctets o → (x : Option (List ℕ)) × Serves b m (gives work) o x
