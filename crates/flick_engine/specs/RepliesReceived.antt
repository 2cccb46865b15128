-- What the octets of a message are as a reply to an operation.
use Rattle.std.specs.Prelude.{◌≡◌, ◌↔◌, ◌⊎◌, true, false, ℕ, pos, ◌+◌, ◌<◌, List, length, drop, Result, Ok, Err}
use Rattle.kit_base.specs.Limits.{longest_message}
use Rattle.mint.specs.Typed.{IsWellTyped}
use Rattle.mint.specs.Types.{Ty}
use Rattle.mint.specs.Values.{Val, arm, seen}
use Rattle.wire_def.specs.declared.head.Head.{Head}
use Rattle.wire_def.specs.declared.outcome.Outcome.{Outcome}
use Rattle.wire_def.specs.declared.outcome.Outcome.TheVariants as outcome
use Rattle.wire_def.specs.declared.outcome.Refusal.{Refusal}
use Rattle.wire_def.specs.Spells.{IsSpelling}
use Rattle.wire_def.specs.Stops as bodies
use Rattle.plain_wire.specs.Answered.{FirstSpell}
use Rattle.pres.specs.Bindings.{Binding}
use Rattle.flick_engine.specs.declared.errors.MessageErr.{MessageErr}
use Rattle.flick_engine.specs.declared.errors.MessageErr.TheVariants as err
use Rattle.flick_engine.specs.declared.replies.Fate.{Fate}
use Rattle.flick_engine.specs.declared.replies.Fate.TheVariants.{Arm, Refused}
use Rattle.flick_engine.specs.declared.replies.Reply.{Reply}
use Rattle.flick_engine.specs.Backs.{BeginsReply, ReplyStops}
use Rattle.flick_engine.specs.Fates.{Heard, is_followed, takes_memory}
use Rattle.flick_engine.specs.Received.{IsShort}
use Rattle.flick_engine.specs.Replies.{arm_type}

-- what a call came to: a value of its reply, or a refusal
pub data Came : Type 0 where
  answered : Val → Came
  refused : Refusal → Came

-- the head of a reply, and what its call came to
pub record Replied : Type 0 where
  pub head : Head
  pub came : Came

-- the octets begin with the head of a reply that says this, by which the call fared so
abbrev pub Says : Binding → ℕ → List ℕ → Heard → Fate → Type 0
Says b op o t f = IsShort o × BeginsReply b op o t × (t.fate ≡ f)

-- they begin with the head of a reply with an arm, and there is this after the head
abbrev pub Answers : Binding → ℕ → List ℕ → (Heard → ℕ → Type 0) → Type 0
Answers b op o After = (t : Heard) × (k : ℕ) × Says b op o t (Arm k) × After t k

-- they begin with the head of a reply that refuses, and it ends so
abbrev pub Refuses : Binding → ℕ → List ℕ → (Heard → Refusal → Type 0) → Type 0
Refuses b op o Ends = (t : Heard) × (why : Refusal) × Says b op o t (Refused why) × Ends t why

-- octets begin with the head of a reply that takes memory to read
abbrev pub TakesMemory : Binding → ℕ → List ℕ → Type 0
TakesMemory b op o = (t : Heard) × IsShort o × BeginsReply b op o t × (takes_memory t.fate ≡ true)

-- the octets after the head are the spelling of a value of the arm
abbrev pub IsAnswer : Binding → ℕ → List ℕ → Val → Heard → ℕ → Type 0
IsAnswer b op o v t k = (w : Val) × (v ≡ arm (pos k) w) × IsSpelling t.encoding (arm_type b op k) t.used (drop t.used o) w

-- they begin with one, and others follow at the place
abbrev pub IsTrailed : Binding → ℕ → List ℕ → ℕ → Heard → ℕ → Type 0
IsTrailed b op o at t k =
    (w : Val) × (used : ℕ) × FirstSpell t.encoding (arm_type b op k) t.used (drop t.used o) w used × (at ≡ t.used + used) × (at < length o)

-- what a reply came to
abbrev pub CameTo : Binding → ℕ → List ℕ → Head → Came → Type 0
CameTo b op o head (answered v) = Answers b op o (λ t k. (head ≡ t.head) × IsAnswer b op o v t k)
CameTo b op o head (refused why) = Refuses b op o (λ t r. (head ≡ t.head) × (why ≡ r) × (is_followed r t.used o ≡ false))

-- what a message is as a reply to an operation: the first of these that holds. Places are counted from its first octet.
abbrev pub ReadReply : Binding → ℕ → List ℕ → Result Replied MessageErr → Type 0
ReadReply b op o (Err err.Long) = longest_message < length o
ReadReply b op o (Err (err.Head e)) = IsShort o × ReplyStops b op o e
-- the octets after the head stop with the fault
ReadReply b op o (Err (err.Body f)) = Answers b op o (λ t k.
    bodies.Stops t.encoding (arm_type b op k) t.used (drop t.used o) f.kind f.at)
-- they begin with the spelling of an arm's value, or are none of a refusal, and others follow at the place
ReadReply b op o (Err (err.Trailing at)) =
    Answers b op o (IsTrailed b op o at) ⊎ Refuses b op o (λ t why. (at ≡ t.used) × (is_followed why t.used o ≡ true))
ReadReply b op o (Ok r) = CameTo b op o r.head r.came
-- a reply names nothing
ReadReply b op o (Err _) = ⊥

-- what a call came to, its value seen as its plain tree
abbrev pub came : Outcome → Came
came (outcome.Answer v) = answered (seen v)
came (outcome.Refused why) = refused why

-- a reply, seen so
abbrev pub replied : Reply → Replied
replied r = record { head = r.head; came = came r.outcome }

-- this is what the message is as a reply, and it is nothing else
abbrev pub IsExactlyReply : Binding → ℕ → List ℕ → Result Replied MessageErr → Type 0
IsExactlyReply b op o x = (y : Result Replied MessageErr) → (x ≡ y) ↔ ReadReply b op o y

-- what was answered is exactly what the message is, unless memory ran out
abbrev pub AnswersReply : Binding → ℕ → List ℕ → Result Reply MessageErr → Type 0
AnswersReply b op o (Err err.NoMemory) = Unit {0}
AnswersReply b op o (Err e) = IsExactlyReply b op o (Err e)
AnswersReply b op o (Ok r) = IsExactlyReply b op o (Ok (replied r))

-- a value that a call came to is of its reply's type
abbrev pub IsTypedCame : Ty → Came → Type 0
IsTypedCame t (answered v) = IsWellTyped t v
IsTypedCame t (refused why) = Unit {0}
