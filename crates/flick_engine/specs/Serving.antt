-- How a server answers messages, by the operations of a binding and the work that is done for their calls.
use Rattle.std.specs.Prelude.{◌≡◌, ◌⊎◌, ◌<◌, ℕ, Bool, true, ◌&&◌, MatchBool, List, length, map, slice_index_or, Option, None, Some, Result, Ok, Err}
use Rattle.kit_base.specs.Limits.{longest_message}
use Rattle.mint.specs.Values.{Val}
use Rattle.wire_def.specs.declared.fault.HeadErr.{HeadErr}
use Rattle.wire_def.specs.declared.head.Head.{Head}
use Rattle.wire_def.specs.declared.outcome.Refusal.{Refusal}
use Rattle.raw_buf.specs.declared.tally.Tally.{Tally}
use Rattle.raw_buf.specs.Buf.{Buf}
use Rattle.head_kit.specs.declared.call_head.CallHead.{CallHead}
use Rattle.head_kit.specs.declared.call_head.CallTarget.{CallTarget}
use Rattle.head_kit.specs.declared.call_head.CallTarget.TheVariants.{Operation}
use Rattle.pres.specs.declared.ops.Op.{Op}
use Rattle.pres.specs.Bindings.{Binding}
use Rattle.stub_codes.specs.Stubs.{Coded}
use Rattle.flick_engine.specs.declared.errors.MessageErr.{MessageErr}
use Rattle.flick_engine.specs.declared.errors.MessageErr.TheVariants as err
use Rattle.flick_engine.specs.declared.serve.Served.{Served}
use Rattle.flick_engine.specs.declared.serve.Served.TheVariants as served
use Rattle.flick_engine.specs.Backs.{Begins, Stops}
use Rattle.flick_engine.specs.Costs.{IsAnsweredByCode}
use Rattle.flick_engine.specs.Received.{Asked, IsShort, ReadCall}
use Rattle.flick_engine.specs.Refusals.{wants_reply, reply_head, NoInterfaceOver, no_operation, bad_body, long_reply, RefusesOver, AnswersFault}
use Rattle.flick_engine.specs.Replies.{reply_message}

-- the replies that the work for calls may give: to an operation, and the request that it is called with
abbrev pub Work : Type 1
Work = ℕ → Val → Val → Type 0

-- work that has one reply to each request
abbrev pub gives : (ℕ → Val → Val) → Work
gives f op v w = w ≡ f op v

-- what a message is answered, by the octets of a buffer: they are the reply, or there is none
abbrev pub reply_in : Served → List ℕ → Option (List ℕ)
reply_in served.Reply o = Some o
reply_in served.Silent o = None

-- an operation has a reply
abbrev pub has_reply : Binding → ℕ → Bool
has_reply b op = slice_index_or (map (λ (o : Op). o.has_reply) b.ops) op true

-- what a call names has a reply, where it is an operation; a call that names none is refused
abbrev pub names_reply : Binding → CallTarget → Bool
names_reply b (Operation op) = has_reply b op
names_reply b _ = true

-- a call that is answered
abbrev pub is_answered : Binding → CallHead → Bool
is_answered b c = wants_reply b.back c.head && names_reply b c.naming

-- why a call is refused that is not a request: it names no interface, no operation, or its body is wrong
abbrev pub IsRefused : Binding → List ℕ → MessageErr → Refusal → Type 0
IsRefused b o err.NoInterface why = NoInterfaceOver b.back b o why
IsRefused b o err.NoOperation why = why ≡ no_operation b.back
IsRefused b o _ why = why ≡ bad_body b.back

-- the message of a reply in a version, or where that would be too long a refusal
abbrev pub Replies : Binding → ℕ → List ℕ → Head → ℕ → Val → Option (List ℕ) → Type 0
Replies b m o head op w x =
    (IsShort (reply_message b m op head w) × (x ≡ Some (reply_message b m op head w)))
    ⊎ ((longest_message < length (reply_message b m op head w)) × RefusesOver b.back m o head (long_reply b.back) x)

-- the reply in a version that refuses a call, which has this head
abbrev pub RefusesCall : Binding → ℕ → List ℕ → Head → MessageErr → Option (List ℕ) → Type 0
RefusesCall b m o head e x = (why : Refusal) × IsRefused b o e why × RefusesOver b.back m o head why x

-- a call is answered by a reply in a version with this head, according to what its message is
abbrev pub AnswersAs : Binding → ℕ → Work → List ℕ → Head → Result Asked MessageErr → Option (List ℕ) → Type 0
AnswersAs b m work o head (Err e) x = RefusesCall b m o head e x
AnswersAs b m work o head (Ok r) x = (w : Val) × work r.op r.value w × Replies b m o head r.op w x

-- a call that is answered, in its own version
abbrev pub AnswersCall : Binding → Work → List ℕ → CallHead → Option (List ℕ) → Type 0
AnswersCall b work o c x = (r : Result Asked MessageErr) × ReadCall b o r × AnswersAs b c.minor work o (reply_head b.back c.head) r x

-- a message that begins with the head of a call
abbrev pub ServesCall : Binding → Work → List ℕ → CallHead → Option (List ℕ) → Type 0
ServesCall b work o c x = MatchBool (is_answered b c) (AnswersCall b work o c x) (x ≡ None)

-- what a message is answered: nothing if it is too long; else by its head, or in this version by the first fault of that
abbrev pub Serves : Binding → ℕ → Work → List ℕ → Option (List ℕ) → Type 0
Serves b m work o x =
    ((longest_message < length o) × (x ≡ None))
    ⊎ (IsShort o × (e : HeadErr) × Stops b.back o e × AnswersFault b.back m b o e x)
    ⊎ (IsShort o × (c : CallHead) × Begins b o c × ServesCall b work o c x)

-- a message that is not too long is answered: it begins with the head of a call that is, or stops with a fault that is
abbrev pub IsDue : Binding → ℕ → List ℕ → Type 0
IsDue b m o = IsShort o
    × (((c : CallHead) × Begins b o c × (is_answered b c ≡ true))
    ⊎ ((e : HeadErr) × Stops b.back o e × ((x : List ℕ) × AnswersFault b.back m b o e (Some x))))

-- ---- what it costs a buffer

-- where the message of a reply is not too long, the buffer's counts are exactly those of a run of the code of its arm in a version
abbrev pub RepliesByCode : Coded → ℕ → Head → ℕ → Val → Tally → Buf → Type 0
RepliesByCode x m head op w spent new = IsShort (reply_message x.binding m op head w) → IsAnsweredByCode x.stubs m op head w spent new

-- so is a request answered, by a reply that the work gives and that was sent
abbrev pub AnswersByCode : Coded → ℕ → Work → List ℕ → Head → Asked → Option (List ℕ) → Tally → Buf → Type 0
AnswersByCode x m work o head r answer spent new = (w : Val) × work r.op r.value w × Replies x.binding m o head r.op w answer
    × RepliesByCode x m head r.op w spent new

-- a call, if its message is a request, in its own version
abbrev pub AnswersCallByCode : Coded → Work → List ℕ → CallHead → Option (List ℕ) → Tally → Buf → Type 0
AnswersCallByCode x work o c answer spent new = (r : Asked) → ReadCall x.binding o (Ok r)
    → AnswersByCode x c.minor work o (reply_head x.binding.back c.head) r answer spent new

-- a message, if it begins with the head of a call that is answered
abbrev pub ServesByCode : Coded → Work → List ℕ → Option (List ℕ) → Tally → Buf → Type 0
ServesByCode x work o answer spent new = (c : CallHead) → Begins x.binding o c → is_answered x.binding c ≡ true
    → AnswersCallByCode x work o c answer spent new
