-- What a served message costs: its reply costs what the code of the arm does, and its request is read by the operation's code.
use Rattle.std.proofs.Common.{◌≡◌, ◌<◌, inl, inr, ℕ, List, Bool, true, false, Some, length, refl, sym, ap, ◌∙◌, subst, arith}
use Rattle.std.specs.Prelude.{Option, Result, Ok, Err, IfOk, OnOk}
use Rattle.kit_base.specs.Limits.{longest_message}
use Rattle.mint.specs.Values.{Val}
use Rattle.wire_def.specs.declared.fault.HeadErr.{HeadErr}
use Rattle.wire_def.specs.declared.head.Head.{Head}
use Rattle.raw_buf.specs.declared.tally.Tally.{Tally}
use Rattle.raw_buf.specs.Buf.{Buf}
use Rattle.raw_buf.specs.View.{View}
use Rattle.head_kit.specs.declared.call_head.CallHead.{CallHead}
use Rattle.stub_codes.specs.Stubs.{Coded}
use Rattle.flick_engine.specs.declared.errors.MessageErr.{MessageErr}
use Rattle.flick_engine.specs.declared.requests.Request.{Request}
use Rattle.flick_engine.specs.declared.serve.Served.{Served}
use Rattle.flick_engine.specs.declared.serve.Served.TheVariants as served
use Rattle.flick_engine.specs.Backs.{Begins, Stops}
use Rattle.flick_engine.specs.Costs.{IsAnsweredByCode, IsReadByCode, IsServedByCode}
use Rattle.flick_engine.specs.Received.{Answers, Asked, IsShort, ReadCall, asked}
use Rattle.flick_engine.specs.Refusals.{reply_head, long_reply, RefusesOver}
use Rattle.flick_engine.specs.Replies.{reply_message}
use Rattle.flick_engine.specs.Serving.{reply_in, is_answered, AnswersByCode, AnswersCallByCode, ServesByCode}
use Rattle.flick_engine.proofs.Deciding.{determined}
use Rattle.flick_engine.proofs.HeadsOfBacks.{one_head}

pub no_request : (e : MessageErr) (r : Asked) (y : Result Asked MessageErr) → y ≡ Err e → y ≡ Ok r → ⊥
no_request e r y is not = cc

pub one_request : (q r : Asked) (y : Result Asked MessageErr) → y ≡ Ok q → y ≡ Ok r → q ≡ r
one_request q r y first second = let same = sym first ∙ second in cc

pub unshown : (t : Bool) → t ≡ true → t ≡ false → ⊥
unshown t is not = cc

module _ (x : Coded) (work : ℕ → Val → Val → Type 0) (o : List ℕ) (answer : Option (List ℕ)) (spent : Tally) (new : Buf) where
  -- a call that is refused is not a request
  pub refused_at : {A E : Type 0} (y : Result A E) (c : CallHead) (e : MessageErr) → OnOk y (ReadCall x.binding o (Err e))
      → OnOk y (AnswersCallByCode x work o c answer spent new)
  refused_at (Ok u) c e reads = λ r is. absurd (no_request e r (Err e) refl (determined x.binding o (Err e) (Ok r) reads is))
  refused_at (Err n) c e reads = tt

  -- a call that is a request
  pub requested_at : {A E : Type 0} (y : Result A E) (c : CallHead) (q : Request) → Answers x.binding o (Ok q)
      → OnOk y (AnswersByCode x c.minor work o (reply_head x.binding.back c.head) (asked q) answer spent new)
      → OnOk y (AnswersCallByCode x work o c answer spent new)
  requested_at (Ok u) c q is h =
      λ r reads.
      subst (λ (p : Asked). AnswersByCode x c.minor work o (reply_head x.binding.back c.head) p answer spent new)
      (one_request (asked q) r (Ok (asked q)) refl ((is (Ok r)).1 reads)) h
  requested_at (Err n) c q is h = tt

  -- a call that is answered
  pub answered_at : (c : CallHead) → Begins x.binding o c → AnswersCallByCode x work o c answer spent new
      → ServesByCode x work o answer spent new
  answered_at c begins h d starts is =
      subst (λ (y : CallHead). AnswersCallByCode x work o y answer spent new) ((one_head x.binding o).one_head c d begins starts) h

  -- a call that is not
  pub unanswered_at : (c : CallHead) → Begins x.binding o c → is_answered x.binding c ≡ false → ServesByCode x work o answer spent new
  unanswered_at c begins not d starts is =
      let same = (one_head x.binding o).one_head c d begins starts in
      absurd (unshown (is_answered x.binding d) is (ap (is_answered x.binding) (sym same) ∙ not))

-- a message that begins with no head of a call
pub stopped_at : {E : Type 0} (x : Coded) (work : ℕ → Val → Val → Type 0) (o d : List ℕ) (spent : Tally) (new : Buf) (y : Result Served E)
    (e : HeadErr) → Stops x.binding.back o e → IfOk y (λ s. ServesByCode x work o (reply_in s d) spent new)
stopped_at x work o d spent new (Ok s) e stops = λ c starts is. absurd ((one_head x.binding o).not_both c e starts stops)
stopped_at x work o d spent new (Err n) e stops = tt

module _ (x : Coded) (m : ℕ) (work : ℕ → Val → Val → Type 0) (o : List ℕ) (head : Head) (q : Request) (w : Val)
    (spent : Tally) (new : Buf) where
  -- the reply of a request was sent
  pub sent_at : work q.op (asked q).value w → IsShort (reply_message x.binding m q.op head w)
      → new.done ≡ reply_message x.binding m q.op head w
      → IsAnsweredByCode x.stubs m q.op head w spent new
      → AnswersByCode x m work o head (asked q) (Some new.done) spent new
  sent_at does short is paid = (w, does, inl (short, ap (λ (z : List ℕ). Some z) is), λ few. paid)

  -- it is too long, and refused
  pub too_long_at : {A E : Type 0} (y : Result A E) → work q.op (asked q).value w
      → longest_message < length (reply_message x.binding m q.op head w)
      → OnOk y (RefusesOver x.binding.back m o head (long_reply x.binding.back) (Some new.done))
      → OnOk y (AnswersByCode x m work o head (asked q) (Some new.done) spent new)
  too_long_at (Ok u) does long refuses = (w, does, inr (long, refuses), λ short. absurd (omega (arith, long, short)))
  too_long_at (Err n) does long refuses = tt

-- ---- where the view is

module _ (x : Coded) (o : List ℕ) (old new : View) (same : old.octets ≡ o) where
  reads_so : (r : Asked) → ReadCall x.binding old.octets (Ok r) → ReadCall x.binding o (Ok r)
  reads_so r reads = subst (λ (p : List ℕ). ReadCall x.binding p (Ok r)) same reads

  -- a call that is refused is not a request
  pub refused_view : {A E : Type 0} (y : Result A E) (e : MessageErr) → OnOk y (ReadCall x.binding o (Err e))
      → OnOk y (IsServedByCode x old new)
  refused_view (Ok u) e reads =
      λ r is. absurd (no_request e r (Err e) refl (determined x.binding o (Err e) (Ok r) reads (reads_so r is)))
  refused_view (Err n) e reads = tt

  -- a request was read
  pub requested_view : {A E : Type 0} (y : Result A E) (q : Request) → Answers x.binding o (Ok q)
      → IsReadByCode x q.op (asked q).value old new → OnOk y (IsServedByCode x old new)
  requested_view (Ok u) q is h =
      λ r reads.
      subst
      (λ (p : Asked). IsReadByCode x p.op p.value old new)
      (one_request (asked q) r (Ok (asked q)) refl ((is (Ok r)).1 (reads_so r reads))) h
  requested_view (Err n) q is h = tt

  -- a message that begins with no head of a call is none
  pub stopped_view : {E : Type 0} (y : Result Served E) (e : HeadErr) → Stops x.binding.back o e
      → IfOk y (λ s. (s ≡ served.Reply) → IsServedByCode x old new)
  stopped_view (Ok s) e stops =
      λ replies r reads. let (c, op, names, after) = reads_so r reads in absurd ((one_head x.binding o).not_both c e names.1 stops)
  stopped_view (Err n) e stops = tt
