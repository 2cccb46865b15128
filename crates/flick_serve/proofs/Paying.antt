-- What becomes of the buffer where a line is answered: it is paid at least what the code of the reply costs.
use Rattle.std.proofs.Common.{◌≡◌, ◌⊎◌, inl, inr, ℕ, ◌≤◌, ◌<◌, Bool, true, false, List, [], length, Result, Ok, Err, Option, Some, None, refl, sym, ap, ◌∙◌, subst, arith}
use Rattle.std.specs.Prelude.{MatchBool, OnOk, nat_le, unwrap_or}
use Rattle.std.proofs.Math.Path.{fun_ext}
use Rattle.std.proofs.lemmas.Bool.{leb-true, leb-false}
use Rattle.hex.specs.Hex.{decode_of}
use Rattle.hex.specs.declared.error.FromHexError.{FromHexError}
use Rattle.hex.specs.declared.error.FromHexError.TheVariants.{OutOfMemory}
use Rattle.kit_base.specs.Limits.{longest_message}
use Rattle.mint.specs.Values.{Val}
use Rattle.raw_buf.specs.declared.tally.Tally.{Tally}
use Rattle.raw_buf.specs.Buf.{Buf, NoneFell}
use Rattle.cast_stub.specs.Meaning.{Cost, no_cost}
use Rattle.head_kit.specs.declared.call_head.CallHead.{CallHead}
use Rattle.pres.specs.Bindings.{Binding}
use Rattle.stub_codes.specs.Stubs.{Coded}
use Rattle.skeleton.specs.TableSkeleton.{TableSkeleton, Places, answer_at}
use Rattle.skeleton.proofs.Keeping.{with_table}
use Rattle.flick_engine.specs.declared.errors.MessageErr.{MessageErr}
use Rattle.flick_engine.specs.declared.serve.Served.{Served}
use Rattle.flick_engine.specs.declared.serve.Served.TheVariants.{Reply, Silent}
use Rattle.flick_engine.specs.Backs.{Begins}
use Rattle.flick_engine.specs.Costs.{IsAnsweredByCode}
use Rattle.flick_engine.specs.Received.{Asked, IsShort, ReadCall}
use Rattle.flick_engine.specs.Refusals.{reply_head}
use Rattle.flick_engine.specs.Serving.{Work, gives, is_answered, reply_in, AnswersCall, Serves, RepliesByCode, AnswersByCode, ServesByCode}
use Rattle.flick_engine.proofs.Deciding.{determined}
use Rattle.flick_engine.proofs.HeadsOfBacks.{one_head}
use Rattle.flick_engine.proofs.Servings.{served_once}
use Rattle.flick_lines.specs.Sent.{Sending, nothing, sends, IsPaidFor}
use Rattle.flick_lines.proofs.Sending.{paid-exactly, paid-none}
use Rattle.flick_serve.specs.Given.{Given, given_in}
use Rattle.flick_serve.specs.Served.{Serving, IsServing, IsOfMessage, IsServed, answer_of}
use Rattle.flick_serve.specs.Spent.{reply_to, cost_to, IsRepliedTo, IsCostOf, IsMessageSent, IsServeSent, IsMessagePaid, IsServePaid}
use Rattle.flick_serve.proofs.Answering.{same_answer, same_given}
use Rattle.flick_serve.proofs.Deciding.{given_once}

unlike : (e : MessageErr) (r : Asked) (y : Result Asked MessageErr) → y ≡ Err e → y ≡ Ok r → ⊥
unlike e r y is not = cc

one_asked : (q r : Asked) (y : Result Asked MessageErr) → y ≡ Ok q → y ≡ Ok r → q ≡ r
one_asked q r y one other = let same = sym one ∙ other in cc

not_true : (t : Bool) → t ≡ true → t ≡ false → ⊥
not_true t is not = cc

module _ (c : Coded) (answer : ℕ → Val) (o : List ℕ) where
  abbrev work : Work
  work = gives (λ op request. answer op)

  -- ---- one cost

  same_cost : (call d : CallHead) (q r : Asked) → IsRepliedTo c answer o call q → IsRepliedTo c answer o d r
      → cost_to c answer call q ≡ cost_to c answer d r
  same_cost call d q r one other =
      ap (λ (z : CallHead). cost_to c answer z q) ((one_head c.binding o).one_head call d one.begins other.begins)
      ∙ ap (λ (z : Asked). cost_to c answer d z) (one_asked q r (Ok q) refl (determined c.binding o (Ok q) (Ok r) one.asks other.asks))

  pub one_cost : (k l : Option Cost) → IsCostOf c answer o k → IsCostOf c answer o l → k ≡ l
  one_cost k l (inl (call, q, replied, is)) (inl (d, r, also, other)) = is ∙ same_cost call d q r replied also ∙ sym other
  one_cost k l (inl (call, q, replied, is)) (inr (never, other)) = absurd (never call q replied)
  one_cost k l (inr (never, is)) (inl (d, r, also, other)) = absurd (never d r also)
  one_cost k l (inr (never, is)) (inr (none, other)) = is ∙ sym other

  -- ---- a cost of which something holds

  module _ (Holds : Option Cost → Type 0) (free : Holds (Some no_cost))
      (owed : (call : CallHead) (r : Asked) → IsRepliedTo c answer o call r → Holds (cost_to c answer call r)) where
    -- there is one
    abbrev HasCost : Type 0
    HasCost = (k : Option Cost) × IsCostOf c answer o k × Holds k

    nothing_owed : ((call : CallHead) (r : Asked) → ¬ IsRepliedTo c answer o call r) → HasCost
    nothing_owed never = (Some no_cost, inr (never, refl), free)

    -- a request that is answered
    cost_of_reply : (d : CallHead) → Begins c.binding o d → is_answered c.binding d ≡ true → (r : Asked) → ReadCall c.binding o (Ok r)
        → (b : Bool) → nat_le (length (reply_to c answer d r)) longest_message ≡ b → HasCost
    cost_of_reply d begins answered r reads true fits =
        let short : length (reply_to c answer d r) ≤ longest_message = leb-true (length (reply_to c answer d r)) longest_message fits in
        let replied : IsRepliedTo c answer o d r = record { begins = begins; answered = answered; asks = reads; short = short } in
        (cost_to c answer d r, inl (d, r, replied, refl), owed d r replied)
    cost_of_reply d begins answered r reads false long =
        let above : longest_message < length (reply_to c answer d r) = leb-false (length (reply_to c answer d r)) longest_message long in
        nothing_owed (λ call q replied.
        let one = (one_head c.binding o).one_head call d replied.begins begins in
        let same = ap (λ (z : CallHead). length (reply_to c answer z q)) one ∙ ap (λ (z : Asked). length (reply_to c answer d z))
        (one_asked q r (Ok r) (determined c.binding o (Ok r) (Ok q) reads replied.asks) refl) in
        omega (arith, above, replied.short, same))

    -- a call that is answered
    cost_of_call : (d : CallHead) → Begins c.binding o d → is_answered c.binding d ≡ true
        → (y : Result Asked MessageErr) → ReadCall c.binding o y → HasCost
    cost_of_call d begins answered (Ok r) reads =
        cost_of_reply d begins answered r reads (nat_le (length (reply_to c answer d r)) longest_message) refl
    cost_of_call d begins answered (Err e) reads =
        nothing_owed (λ call q replied. unlike e q (Err e) refl (determined c.binding o (Err e) (Ok q) reads replied.asks))

    cost_of_called : (x : Option (List ℕ)) (d : CallHead) → Begins c.binding o d
        → (b : Bool) → is_answered c.binding d ≡ b → MatchBool b (AnswersCall c.binding work o d x) (x ≡ None) → HasCost
    cost_of_called x d begins true answered (y, reads, answers) = cost_of_call d begins answered y reads
    cost_of_called x d begins false silent none =
        nothing_owed (λ call q replied.
        let same = (one_head c.binding o).one_head call d replied.begins begins in
        not_true (is_answered c.binding call) replied.answered (ap (λ (z : CallHead). is_answered c.binding z) same ∙ silent))

    pub cost_somehow : (x : Option (List ℕ)) → Serves c.binding c.minor work o x → HasCost
    cost_somehow x (inl (long, none)) =
        nothing_owed (λ call q replied. let (d, op, names, after) = replied.asks in omega (arith, long, names.0))
    cost_somehow x (inr (inl (short, e, stops, fault))) =
        nothing_owed (λ call q replied. (one_head c.binding o).not_both call e replied.begins stops)
    cost_somehow x (inr (inr (short, d, begins, serves))) = cost_of_called x d begins (is_answered c.binding d) refl serves

  -- ---- what was paid

  -- the counts are those of the reply's code, where its message is within the limit
  counts_of : (call : CallHead) (r : Asked) (x : Option (List ℕ)) (spent : Tally) (new : Buf)
      → AnswersByCode c call.minor work o (reply_head c.binding.back call.head) r x spent new → IsShort (reply_to c answer call r)
      → IsAnsweredByCode c.stubs call.minor r.op (reply_head c.binding.back call.head) (answer r.op) spent new
  counts_of call r x spent new (w, is, replies, by) short =
      subst (λ (z : Val). RepliesByCode c call.minor (reply_head c.binding.back call.head) r.op z spent new) is by short

  -- nothing is owed
  paid_free : (spent now : Tally) → NoneFell spent now → IsPaidFor false (Some no_cost) spent now
  paid_free spent now stands = (subst (λ (t : Tally). NoneFell t now) (paid-none spent) stands, λ known. absurd (cc known))

  -- at least what the answer costs was paid
  paid_for : (spent : Tally) (new : Buf) (x : Option (List ℕ)) → Serves c.binding c.minor work o x → ServesByCode c work o x spent new
      → NoneFell spent new.spent → (k : Option Cost) × IsCostOf c answer o k × IsPaidFor false k spent new.spent
  paid_for spent new x serves by stands =
      cost_somehow (λ k. IsPaidFor false k spent new.spent) (paid_free spent new.spent stands)
      (λ call r replied.
      let counts = counts_of call r x spent new (by call replied.begins replied.answered r replied.asks) replied.short in
      paid-exactly false (cost_to c answer call r) spent new.spent counts.1)
      x serves

-- ---- one sending, and some

message_alone : (c : Coded) (answer : ℕ → Val) (d : Result (List ℕ) FromHexError) (s t : Sending) → IsMessageSent c answer d s
    → IsMessageSent c answer d t → s ≡ t
message_alone c answer (Err e) s t is other = is ∙ sym other
message_alone c answer (Ok o) s t (x, k, serves, cost, is) (y, l, also, other_cost, other) =
    let same = served_once c.binding c.minor (λ op request. answer op) o x y serves also in
    is ∙ ap (λ (z : Option (List ℕ)). sends (unwrap_or z []) k) same
    ∙ ap (λ (n : Option Cost). sends (unwrap_or y []) n) (one_cost c answer o k l cost other_cost) ∙ sym other

-- what is sent of a line is determined
pub one_sending : (s : Serving) (line : List ℕ) (x y : Sending) → IsServeSent s line x → IsServeSent s line y → x ≡ y
one_sending s line x y (g, gives, is) (h, also, other) =
    let same : h ≡ g = same_given h g (given_once s.coded.binding s.text (Ok h) (Ok g) also gives) in
    message_alone s.coded (answer_of s.coded.binding g) (decode_of line) x y is
    (subst (λ (f : Given). IsMessageSent s.coded (answer_of s.coded.binding f) (decode_of line) y) same other)

message_somehow : (c : Coded) (answer : ℕ → Val) (d : Result (List ℕ) FromHexError) (a : List ℕ) → IsOfMessage c.binding c.minor answer d a
    → (s : Sending) × IsMessageSent c answer d s
message_somehow c answer (Err e) a is = (nothing, refl)
message_somehow c answer (Ok o) a (x, serves, is) =
    let (k, cost, holds) = cost_somehow c answer o (λ k. Unit {0}) tt (λ call r replied. tt) x serves in
    (sends (unwrap_or x []) k, (x, k, serves, cost, refl))

-- of a line that is answered something is sent, or nothing
pub some_sending : (s : Serving) (line a : List ℕ) → IsServed s.coded.binding s.coded.minor s.text line a
    → (x : Sending) × IsServeSent s line x
some_sending s line a (g, gives, is) =
    let (x, sent) = message_somehow s.coded (answer_of s.coded.binding g) (decode_of line) a is in
    (x, (g, gives, sent))

-- ---- a buffer

-- the octets of a buffer are the reply, or none
held_reply : (served : Served) (octets : List ℕ) → (served ≡ Silent → octets ≡ []) → octets ≡ unwrap_or (reply_in served octets) []
held_reply Reply octets silent = refl
held_reply Silent octets silent = silent refl

message_paid : (c : Coded) (answer : ℕ → Val) (o : List ℕ) (served : Served) (old new : Buf)
    → Serves c.binding c.minor (gives (λ op request. answer op)) o (reply_in served new.done)
    → ServesByCode c (gives (λ op request. answer op)) o (reply_in served new.done) old.spent new
    → (served ≡ Silent → new.done ≡ []) → NoneFell old.spent new.spent → IsMessagePaid c answer (Ok o) old new
message_paid c answer o served old new serves by silent stands =
    let (k, is, least) = paid_for c answer o old.spent new (reply_in served new.done) serves by stands in (
      sends (unwrap_or (reply_in served new.done) []) k,
      (reply_in served new.done, k, serves, is, refl),
      (held_reply served new.done silent, least),
    )

-- ---- as the clauses of calls

-- what was answered to a message
pub served_paid : {X E : Type 0} (c : Coded) (answer : ℕ → Val) (message octets : List ℕ) (served : Served) (y : Result X E) (old new : Buf)
    → octets ≡ message → Serves c.binding c.minor (gives (λ op request. answer op)) octets (reply_in served new.done)
    → ServesByCode c (gives (λ op request. answer op)) octets (reply_in served new.done) old.spent new
    → (served ≡ Silent → new.done ≡ []) → NoneFell old.spent new.spent → OnOk y (IsMessagePaid c answer (Ok message) old new)
served_paid c answer message octets served (Err e) old new same serves by silent stands = tt
served_paid c answer message octets served (Ok x) old new same serves by silent stands =
    subst (λ (o : List ℕ). IsMessagePaid c answer (Ok o) old new) same
    (message_paid c answer octets served old new serves by silent stands)

-- what digits do not spell is answered without the buffer
pub unspelled_paid : {X E : Type 0} (c : Coded) (answer : ℕ → Val) (line : List ℕ) (e : FromHexError) (y : Result X E) (buf : Buf)
    → (e ≡ OutOfMemory → ⊥) → (e ≡ OutOfMemory) ⊎ (decode_of line ≡ Err e) → OnOk y (IsMessagePaid c answer (decode_of line) buf buf)
unspelled_paid c answer line e (Err n) buf other is = tt
unspelled_paid c answer line e (Ok x) buf other (inl memory) = absurd (other memory)
unspelled_paid c answer line e (Ok x) buf other (inr is) =
    subst (λ (d : Result (List ℕ) FromHexError). IsMessagePaid c answer d buf buf) (sym is) (nothing, refl, refl)

-- what digits spell
pub spelled_paid : {X E : Type 0} (c : Coded) (answer : ℕ → Val) (line message slice : List ℕ) (y : Result X E) (old new : Buf)
    → decode_of line ≡ Ok message → slice ≡ message → OnOk y (IsMessagePaid c answer (Ok slice) old new)
    → OnOk y (IsMessagePaid c answer (decode_of line) old new)
spelled_paid c answer line message slice (Err e) old new is same h = tt
spelled_paid c answer line message slice (Ok x) old new is same h =
    let spelled = subst (λ (m : List ℕ). IsMessagePaid c answer (Ok m) old new) same h in
    subst (λ (d : Result (List ℕ) FromHexError). IsMessagePaid c answer d old new) (sym is) spelled

-- by a table as by the file that gives it
paid_by : (s : Serving) (places : Places) → IsServing s places → (line : List ℕ) (old new : Buf)
    → IsMessagePaid s.coded (answer_at (with_table s.coded.binding places)) (decode_of line) old new → IsServePaid s line old new
paid_by s places serving line old new h =
    let b : Binding = s.coded.binding in
    let same : answer_at (with_table b places) ≡ answer_of b (given_in places) = fun_ext (same_answer b places) in
    let (sending, sent, made) = subst (λ (f : ℕ → Val). IsMessagePaid s.coded f (decode_of line) old new) same h in
    (sending, (given_in places, serving.given, sent), made)

-- what a server makes of the buffer that is seen as this
pub line_paid : {X E : Type 0} (s t : Serving) (places : Places) (kept : TableSkeleton) (line : List ℕ) (y : Result X E) (old new : Buf)
    → t ≡ s
    → IsServing t places → kept ≡ with_table t.coded.binding places
    → OnOk y (IsMessagePaid t.coded (answer_at kept) (decode_of line) old new) → OnOk y (IsServePaid s line old new)
line_paid s t places kept line (Err e) old new same serving is h = tt
line_paid s t places kept line (Ok x) old new same serving is h =
    let there =
    paid_by t places serving line old new
    (subst (λ (k : TableSkeleton). IsMessagePaid t.coded (answer_at k) (decode_of line) old new) is h) in
    subst (λ (z : Serving). IsServePaid z line old new) same there
