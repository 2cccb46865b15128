-- The text of what a message is.
use Rattle.std.proofs.Common.{◌≡◌, ◌⊎◌, inl, inr, get_or, ◌<◌, ◌≤◌, ℕ, false, List, length, Result, Ok, Err, Option, Some, None, refl, sym, ap, ◌∙◌, arith}
use Rattle.std.specs.Prelude.{slice_get, IfSome}
use Rattle.std.proofs.lemmas.Option.{slice_get_cases}
use Rattle.mint.specs.Types.{Ty}
use Rattle.serde_json.specs.Data.{Data, Members}
use Rattle.serde_json.specs.Written.{compact_text, has_float}
use Rattle.wire_def.specs.declared.outcome.Outcome.{Outcome}
use Rattle.wire_def.specs.declared.outcome.Outcome.TheVariants.{Answer, Refused}
use Rattle.aoi.specs.Plain.{PlainRaise}
use Rattle.pres.specs.declared.ops.Op.{Op}
use Rattle.pres.specs.Bindings.{Binding}
use Rattle.pres.specs.Faces.{Face, face_at}
use Rattle.pres.specs.Raises.{raises}
use Rattle.json_shape.specs.Replies.{outcome_members, reply_with, reply_json, IsOutcome}
use Rattle.json_shape.specs.Requests.{request_json}
use Rattle.flick_engine.specs.declared.errors.MessageErr.{MessageErr}
use Rattle.flick_engine.specs.declared.errors.MessageErr.TheVariants as err
use Rattle.flick_engine.specs.declared.replies.Reply.{Reply}
use Rattle.flick_engine.specs.declared.requests.Request.{Request}
use Rattle.flick_engine.specs.Received.{Asked, ReadCall, Answers, asked}
use Rattle.flick_engine.specs.RepliesReceived.{came, replied, ReadReply, AnswersReply, IsTypedCame}
use Rattle.flick_lines.specs.Unmarshalled.{message_refusal, record_text, request_text, came_members, replied_text, reply_text, IsOfOctets}
use Rattle.flick_lines.proofs.Floats.{record-float, reply-float}

there : (ops : List Op) (n : ℕ) → n < length ops → slice_get ops n ≡ None → ⊥
there ops n h e = go (slice_get_cases ops n).1 where
  go : ((x : Op) × (n < length ops) × (slice_get ops n ≡ Some x) × (get_or ops n x ≡ x)) ⊎ ((length ops ≤ n) × (slice_get ops n ≡ None)) → ⊥
  go (inl (x, less, some, same)) = absurd (cc (sym e ∙ some))
  go (inr (past, none)) = absurd (omega (arith, past, h))

-- ---- requests

of-op : (b : Binding) (r : Asked) (d : Data) (text : List ℕ) (op : Option Op) → (op ≡ None → ⊥)
    → IfSome op (λ o. d ≡ request_json b o r.head r.value) → (has_float d ≡ false → text ≡ compact_text d) → text ≡ record_text b op r
of-op b r d text None some is compact = absurd (some refl)
of-op b r d text (Some o) some is compact =
    compact (ap has_float is ∙ record-float b o r.head r.value) ∙ ap compact_text is

-- the text of a record that is the request's
pub record-written : (b : Binding) (r : Asked) (d : Data) (text : List ℕ) → r.op < length b.ops
    → IfSome (slice_get b.ops r.op) (λ o. d ≡ request_json b o r.head r.value)
    → (has_float d ≡ false → text ≡ compact_text d) → text ≡ request_text b r
record-written b r d text h is compact = of-op b r d text (slice_get b.ops r.op) (there b.ops r.op h) is compact

of-text : (b : Binding) (r : Asked) (text : List ℕ) (op : Option Op) → (op ≡ None → ⊥)
    → IfSome op (λ o. text ≡ compact_text (request_json b o r.head r.value)) → text ≡ record_text b op r
of-text b r text None some is = absurd (some refl)
of-text b r text (Some o) some is = is

-- a text that is that of the request's record
pub text-written : (b : Binding) (r : Asked) (text : List ℕ) → r.op < length b.ops
    → IfSome (slice_get b.ops r.op) (λ o. text ≡ compact_text (request_json b o r.head r.value)) → text ≡ request_text b r
text-written b r text h is = of-text b r text (slice_get b.ops r.op) (there b.ops r.op h) is

-- ---- replies

-- what a call came to has the members that are written of it
came-members : (rs : List PlainRaise) (f : Face) (o : Outcome) → outcome_members rs f o ≡ came_members rs f (came o)
came-members rs f (Answer v) = refl
came-members rs f (Refused why) = refl

of-reply : (b : Binding) (k : ℕ) (r : Reply) (d : Data) (text : List ℕ) (op : Option Op) → (op ≡ None → ⊥)
    → IfSome op (λ o. d ≡ reply_json b k o r.head r.outcome) → (has_float d ≡ false → text ≡ compact_text d)
    → text ≡ replied_text b k op (replied r)
of-reply b k r d text None some is compact = absurd (some refl)
of-reply b k r d text (Some o) some is compact =
    let same = ap (λ (ms : Members). reply_with b o r.head ms) (came-members (raises b k) (face_at b.nodes b.shapes o.reply) r.outcome) in
    compact (ap has_float is ∙ reply-float b k o r.head r.outcome) ∙ ap compact_text (is ∙ same)

-- the text of a record that is the reply's
pub reply-written : (b : Binding) (k : ℕ) (r : Reply) (d : Data) (text : List ℕ) → k < length b.ops
    → IfSome (slice_get b.ops k) (λ o. d ≡ reply_json b k o r.head r.outcome)
    → (has_float d ≡ false → text ≡ compact_text d) → text ≡ reply_text b k (replied r)
reply-written b k r d text h is compact = of-reply b k r d text (slice_get b.ops k) (there b.ops k h) is compact

of-reply-text : (b : Binding) (k : ℕ) (r : Reply) (text : List ℕ) (op : Option Op) → (op ≡ None → ⊥)
    → IfSome op (λ o. text ≡ compact_text (reply_json b k o r.head r.outcome)) → text ≡ replied_text b k op (replied r)
of-reply-text b k r text None some is = absurd (some refl)
of-reply-text b k r text (Some o) some is =
    is ∙ ap (λ (ms : Members). compact_text (reply_with b o r.head ms))
    (came-members (raises b k) (face_at b.nodes b.shapes o.reply) r.outcome)

-- a text that is that of the reply's record
pub reply-text-written : (b : Binding) (k : ℕ) (r : Reply) (text : List ℕ) → k < length b.ops
    → IfSome (slice_get b.ops k) (λ o. text ≡ compact_text (reply_json b k o r.head r.outcome)) → text ≡ reply_text b k (replied r)
reply-text-written b k r text h is = of-reply-text b k r text (slice_get b.ops k) (there b.ops k h) is

-- what a call came to, of its reply's type, is an outcome of that
pub came-outcome : (t : Ty) (o : Outcome) → IsTypedCame t (came o) → IsOutcome t o
came-outcome t (Answer v) typed = typed
came-outcome t (Refused why) typed = tt

-- ---- answers

-- what is so is answered by its text
pub octets-read : {R : Type 0} (Is : List ℕ → Result R MessageErr → Type 0) (text : R → List ℕ) (m : List ℕ) (r : R)
    → Is m (Ok r) → (a : List ℕ) → a ≡ text r → IsOfOctets Is text (Ok m) a
octets-read Is text m r reads a is = (Ok r, reads, is)

-- what is refused is answered by why
pub octets-refused : {R : Type 0} (Is : List ℕ → Result R MessageErr → Type 0) (text : R → List ℕ) (m : List ℕ) (e : MessageErr)
    → Is m (Err e) → (a : List ℕ) → a ≡ message_refusal e → IsOfOctets Is text (Ok m) a
octets-refused Is text m e reads a is = (Err e, reads, is)

-- what was read of a call is what it is
pub call-read : (b : Binding) (m : List ℕ) (r : Request) → Answers b m (Ok r) → ReadCall b m (Ok (asked r))
call-read b m r exactly = (exactly (Ok (asked r))).0 refl

pub call-refused : (b : Binding) (m : List ℕ) (e : MessageErr) → Answers b m (Err e) → (e ≡ err.NoMemory → ⊥) → ReadCall b m (Err e)
call-refused b m err.Long exactly other = (exactly (Err err.Long)).0 refl
call-refused b m (err.Head e) exactly other = (exactly (Err (err.Head e))).0 refl
call-refused b m err.NoInterface exactly other = (exactly (Err err.NoInterface)).0 refl
call-refused b m err.NoOperation exactly other = (exactly (Err err.NoOperation)).0 refl
call-refused b m (err.Body f) exactly other = (exactly (Err (err.Body f))).0 refl
call-refused b m (err.Trailing at) exactly other = (exactly (Err (err.Trailing at))).0 refl
call-refused b m err.NoMemory exactly other = absurd (other refl)

-- the same of a reply to an operation
pub reply-read : (b : Binding) (op : ℕ) (m : List ℕ) (r : Reply) → AnswersReply b op m (Ok r) → ReadReply b op m (Ok (replied r))
reply-read b op m r exactly = (exactly (Ok (replied r))).0 refl

pub reply-refused : (b : Binding) (op : ℕ) (m : List ℕ) (e : MessageErr) → AnswersReply b op m (Err e) → (e ≡ err.NoMemory → ⊥)
    → ReadReply b op m (Err e)
reply-refused b op m err.Long exactly other = (exactly (Err err.Long)).0 refl
reply-refused b op m (err.Head e) exactly other = (exactly (Err (err.Head e))).0 refl
reply-refused b op m err.NoInterface exactly other = (exactly (Err err.NoInterface)).0 refl
reply-refused b op m err.NoOperation exactly other = (exactly (Err err.NoOperation)).0 refl
reply-refused b op m (err.Body f) exactly other = (exactly (Err (err.Body f))).0 refl
reply-refused b op m (err.Trailing at) exactly other = (exactly (Err (err.Trailing at))).0 refl
reply-refused b op m err.NoMemory exactly other = absurd (other refl)
