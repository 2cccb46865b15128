-- How messages are answered, by what the parts of the code answer.
use Rattle.std.proofs.Common.{◌≡◌, inl, inr, ℕ, zero, suc, ◌<◌, List, [], ◌∷◌, Bool, true, false, Some, None, length, map, refl, sym, ap, ◌∙◌, subst}
use Rattle.std.specs.Prelude.{MatchBool, Option, Result, Ok, Err, IfOk, OnErr, OnOk, slice_get, slice_index_or, if◌then◌else◌}
use Rattle.std.proofs.lemmas.Result.{IfOk-weaker}
use Rattle.demux.specs.Names.{first_word}
use Rattle.kit_base.specs.Limits.{longest_message}
use Rattle.mint.specs.Values.{Val}
use Rattle.wire_def.specs.declared.encoding.Back.{Back}
use Rattle.wire_def.specs.declared.encoding.Back.TheVariants as back
use Rattle.wire_def.specs.declared.fault.HeadErr.{HeadErr}
use Rattle.wire_def.specs.declared.head.Head.{Head}
use Rattle.wire_def.specs.declared.head.Order.{Order}
use Rattle.wire_def.specs.declared.outcome.Refusal.{Refusal}
use Rattle.head_kit.specs.declared.call_head.CallHead.{CallHead}
use Rattle.pres.specs.declared.ops.Op.{Op}
use Rattle.pres.specs.Bindings.{Binding}
use Rattle.giop_head.specs.Header.{IsMinor}
use Rattle.giop_head.specs.Printed.{addressing_octets, header_octets}
use Rattle.raw_buf.specs.Words.{words}
use Rattle.back_xdr.specs.Refusals.{denied_for}
use Rattle.back_mach.specs.declared.call.MachCall.{MachCall}
use Rattle.back_mach.specs.Refusals as mach
use Rattle.back_mach.specs.Reported.{BeginsCall}
use Rattle.flick_engine.specs.declared.errors.MessageErr.{MessageErr}
use Rattle.flick_engine.specs.declared.errors.MessageErr.TheVariants as err
use Rattle.flick_engine.specs.declared.requests.Request.{Request}
use Rattle.flick_engine.specs.declared.serve.Served.{Served}
use Rattle.flick_engine.specs.Backs.{IsMinorOver, Begins, Stops}
use Rattle.flick_engine.specs.Received.{Answers, IsShort, ReadCall, asked}
use Rattle.flick_engine.specs.Refusals.{reply_head, long_reply, RefusesOver, addressing_answer, is_passed_over, is_version, giop_answer, AnswersFault}
use Rattle.flick_engine.specs.Replies.{reply_message}
use Rattle.flick_engine.specs.Serving.{reply_in, is_answered, IsDue, RefusesCall, AnswersAs, AnswersCall, ServesCall, Serves}

-- ---- results

-- what holds anyway
pub any_ok : {A E : Type 0} (r : Result A E) (P : Type 0) → P → OnOk r P
any_ok (Ok x) P h = h
any_ok (Err e) P h = tt

pub both_ok : {A E : Type 0} (r : Result A E) (P Q R : Type 0) → (P → Q → R) → OnOk r P → OnOk r Q → OnOk r R
both_ok (Ok x) P Q R f p q = f p q
both_ok (Err e) P Q R f p q = tt

one_err : {A E : Type 0} (x : Result A E) (d e : E) → x ≡ Err d → x ≡ Err e → d ≡ e
one_err x d e here there = let both = sym here ∙ there in cc

pub any_err : {A E : Type 0} (r : Result A E) (P : Type 0) → P → OnErr r P
any_err (Ok x) P h = tt
any_err (Err e) P h = h

pub weaker_err : {A E : Type 0} (r : Result A E) (P Q : Type 0) → (P → Q) → OnErr r P → OnErr r Q
weaker_err (Ok x) P Q f h = tt
weaker_err (Err e) P Q f h = f h

-- what did not end so did not end so elsewhere
pub other_err : {A B E : Type 0} (r : Result B E) (x : Result A E) (d e : E) → r ≡ Err d → (r ≡ Err e → ⊥) → x ≡ Err d → x ≡ Err e → ⊥
other_err r x d e is not here there =
    let same : d ≡ e = one_err x d e here there in
    not (is ∙ ap (λ z. Err z) same)

-- ---- what a message is, that was not read as a request

pub is_fault : (b : Binding) (o : List ℕ) (e : MessageErr) → (e ≡ err.NoMemory → ⊥) → Answers b o (Err e) → ReadCall b o (Err e)
is_fault b o err.Long some h = (h (Err err.Long)).0 refl
is_fault b o (err.Head e) some h = (h (Err (err.Head e))).0 refl
is_fault b o err.NoInterface some h = (h (Err err.NoInterface)).0 refl
is_fault b o err.NoOperation some h = (h (Err err.NoOperation)).0 refl
is_fault b o (err.Body f) some h = (h (Err (err.Body f))).0 refl
is_fault b o (err.Trailing at) some h = (h (Err (err.Trailing at))).0 refl
is_fault b o err.NoMemory some h = absurd (some refl)

-- ---- what has a reply

pub none_there : (os : List Op) (n : ℕ) → slice_get os n ≡ None → true ≡ slice_index_or (map (λ (o : Op). o.has_reply) os) n true
none_there [] n e = refl
none_there (o ∷ os) zero e = absurd (cc e)
none_there (o ∷ os) (suc n) e = none_there os n e

-- ---- what it is answered

abbrev silence : Option (List ℕ)
silence = None

module _ (b : Binding) (m : ℕ) (work : ℕ → Val → Val → Type 0) (o : List ℕ) where
  pub stopped : {E : Type 0} (r : Result Served E) (d : List ℕ) (e : HeadErr) → IsShort o → Stops b.back o e
      → IfOk r (λ s. AnswersFault b.back m b o e (reply_in s d)) → IfOk r (λ s. Serves b m work o (reply_in s d))
  stopped r d e short stops h =
      IfOk-weaker r (λ s. AnswersFault b.back m b o e (reply_in s d)) (λ s. Serves b m work o (reply_in s d)) (λ s a.
      inr (inl (short, e, stops, a))) h

  pub begun : {E : Type 0} (r : Result Served E) (d : List ℕ) (c : CallHead) → IsShort o → Begins b o c
      → IfOk r (λ s. ServesCall b work o c (reply_in s d)) → IfOk r (λ s. Serves b m work o (reply_in s d))
  begun r d c short begins h =
      IfOk-weaker r (λ s. ServesCall b work o c (reply_in s d)) (λ s. Serves b m work o (reply_in s d)) (λ s a.
      inr (inr (short, c, begins, a))) h

  pub answered : (c : CallHead) (x : Option (List ℕ)) (t : Bool) → is_answered b c ≡ t → t ≡ true → AnswersCall b work o c x
      → ServesCall b work o c x
  answered c x t is shown h = subst (λ (z : Bool). MatchBool z (AnswersCall b work o c x) (x ≡ None)) (sym (is ∙ shown)) h

  pub unanswered : (c : CallHead) (t : Bool) → is_answered b c ≡ t → t ≡ false → ServesCall b work o c silence
  unanswered c t is shown = subst (λ (z : Bool). MatchBool z (AnswersCall b work o c silence) (silence ≡ silence)) (sym (is ∙ shown)) refl

  pub refused : {A E : Type 0} (r : Result A E) (c : CallHead) (e : MessageErr) (x : Option (List ℕ))
      → OnOk r (RefusesCall b c.minor o (reply_head b.back c.head) e x) → OnOk r (ReadCall b o (Err e)) → OnOk r (AnswersCall b work o c x)
  refused (Ok u) c e x refuses reads = (Err e, reads, refuses)
  refused (Err n) c e x refuses reads = tt

  pub requested : {A E : Type 0} (r : Result A E) (c : CallHead) (q : Request) (x : Option (List ℕ)) → Answers b o (Ok q)
      → OnOk r (AnswersAs b c.minor work o (reply_head b.back c.head) (Ok (asked q)) x) → OnOk r (AnswersCall b work o c x)
  requested (Ok u) c q x is answers = (Ok (asked q), (is (Ok (asked q))).0 refl, answers)
  requested (Err n) c q x is answers = tt

  pub sent : (head : Head) (q : Request) (w : Val) (d : List ℕ) → work q.op (asked q).value w → IsShort (reply_message b m q.op head w)
      → d ≡ reply_message b m q.op head w → AnswersAs b m work o head (Ok (asked q)) (Some d)
  sent head q w d does short is = (w, does, inl (short, ap (λ (z : List ℕ). Some z) is))

  pub too_long : {A E : Type 0} (r : Result A E) (head : Head) (q : Request) (w : Val) (x : Option (List ℕ)) → work q.op (asked q).value w
      → longest_message < length (reply_message b m q.op head w) → OnOk r (RefusesOver b.back m o head (long_reply b.back) x)
      → OnOk r (AnswersAs b m work o head (Ok (asked q)) x)
  too_long (Ok u) head q w x does long refuses = (w, does, inr (long, refuses))
  too_long (Err n) head q w x does long refuses = tt

-- a call that is answered, and a fault that is
pub call_due : {A E : Type 0} (r : Result A E) (b : Binding) (m : ℕ) (o : List ℕ) (c : CallHead) → IsShort o → Begins b o c
    → OnErr r (is_answered b c ≡ true) → OnErr r (IsDue b m o)
call_due r b m o c short begins h =
    weaker_err r (is_answered b c ≡ true) (IsDue b m o) (λ is. (short, inl (c, begins, is))) h

pub fault_due : {A E : Type 0} (r : Result A E) (b : Binding) (m : ℕ) (o : List ℕ) (e : HeadErr) → IsShort o → Stops b.back o e
    → OnErr r ((x : List ℕ) × AnswersFault b.back m b o e (Some x)) → OnErr r (IsDue b m o)
fault_due r b m o e short stops h =
    weaker_err r ((x : List ℕ) × AnswersFault b.back m b o e (Some x)) (IsDue b m o) (λ due. (short, inr (e, stops, due))) h

-- ---- messages that are not requests

module _ (m : ℕ) (r : Order) (o : List ℕ) (e : HeadErr) (t : Bool) (is : t ≡ is_passed_over o e) where
  pub passed_over : t ≡ true → None ≡ giop_answer m r o e
  passed_over shown = subst (λ (z : Bool). None ≡ (if z then None else Some (header_octets m r 6))) (sym (sym is ∙ shown)) refl

  pub reported_wrong : (d : List ℕ) → t ≡ false → d ≡ header_octets m r 6 → Some d ≡ giop_answer m r o e
  reported_wrong d shown same =
      subst
      (λ (z : Bool). Some d ≡ (if z then None else Some (header_octets m r 6))) (sym (sym is ∙ shown)) (ap (λ (x : List ℕ). Some x) same)

-- a request by another name that wants a reply is answered
pub addressing_due : (r : Order) (h : Head) → h.wants ≡ true → (x : List ℕ) × (Some x ≡ addressing_answer r h)
addressing_due r h wants =
    let x = addressing_octets r h.id in
    (x, subst (λ (z : Bool). Some x ≡ (if z then Some x else None)) (sym wants) refl)

-- over ONC another version of the protocol is
pub onc_due : {A E : Type 0} (r : Result A E) (b : Binding) (m : ℕ) (o : List ℕ) (e : HeadErr) → b.back ≡ back.Xdr
    → OnErr r (is_version e ≡ true) → OnErr r ((x : List ℕ) × AnswersFault b.back m b o e (Some x))
onc_due (Ok s) b m o e is h = tt
onc_due (Err n) b m o e is h =
    let x = words (first_word o ∷ denied_for (0 ∷ 2 ∷ 2 ∷ [])) in (
      x,
      subst (λ (k : Back). AnswersFault k m b o e (Some x)) (sym is)
          (subst (λ (z : Bool). Some x ≡ (if z then Some x else None)) (sym h) refl),
    )

-- ---- replies that refuse

-- the version of a back end is one of GIOP
pub minor_over : (k : Back) (m : ℕ) → IsMinorOver k m → IsMinor m
minor_over k m (inl is) = subst IsMinor (sym is) refl
minor_over k m (inr (is, cdr)) = subst IsMinor (sym is) refl

module _ {A E : Type 0} (r : Result A E) (b : Binding) (m : ℕ) (o : List ℕ) (head : Head) (why : Refusal) (x : Option (List ℕ)) where
  pub refuses_by : (k : Back) → b.back ≡ k → OnOk r (RefusesOver k m o head why x) → OnOk r (RefusesOver b.back m o head why x)
  refuses_by k is h = subst (λ (z : Back). OnOk r (RefusesOver z m o head why x)) (sym is) h

  pub mach_refuses : (call : MachCall) → b.back ≡ back.Mach → BeginsCall o call → OnOk r (mach.refusal_octets call.id head.remote why ≡ x)
      → OnOk r (RefusesOver b.back m o head why x)
  mach_refuses call is begins h =
      refuses_by back.Mach is
      (IfOk-weaker r (λ _. mach.refusal_octets call.id head.remote why ≡ x) (λ _. RefusesOver back.Mach m o head why x) (λ u e.
      (call, begins, e)) h)
