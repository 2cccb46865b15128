-- What a message is as a reply is determined, since it is what reading from left to right gives.
use Rattle.std.proofs.Common.{◌≡◌, ◌+◌, ◌<◌, ℕ, pos, Bool, true, false, List, [], ◌∷◌, Option, Some, None, Result, Ok, Err, length, drop, refl, ap, sym, ◌∙◌, arith, subst, inl, inr}
use Rattle.std.proofs.lemmas.List.{length-drop}
use Rattle.kit_base.specs.Limits.{longest_message}
use Rattle.mint.specs.Values.{Val, arm}
use Rattle.wire_def.specs.declared.fault.FaultKind.{FaultKind}
use Rattle.wire_def.specs.declared.fault.HeadErr.{HeadErr}
use Rattle.wire_def.specs.declared.head.Head.{Head}
use Rattle.wire_def.specs.declared.outcome.Refusal.{Refusal}
use Rattle.wire_def.specs.Grammar.{Reading, got, stop}
use Rattle.wire_def.specs.Reading.{read}
use Rattle.wire_def.proofs.Encodings.{grammar}
use Rattle.pres.specs.Bindings.{Binding}
use Rattle.flick_engine.specs.declared.errors.MessageErr.{MessageErr}
use Rattle.flick_engine.specs.declared.errors.MessageErr.TheVariants as err
use Rattle.flick_engine.specs.declared.replies.Fate.{Fate}
use Rattle.flick_engine.specs.declared.replies.Fate.TheVariants as fates
use Rattle.flick_engine.specs.Backs.{BeginsReply, ReplyStops}
use Rattle.flick_engine.specs.Fates.{Heard, is_followed}
use Rattle.flick_engine.specs.Received.{IsShort}
use Rattle.flick_engine.specs.Replies.{arm_type}
use Rattle.flick_engine.specs.RepliesReceived.{Came, answered, refused, Replied, Says, CameTo, ReadReply, IsExactlyReply}
use Rattle.flick_engine.proofs.Deciding.{first_read, whole_read}
use Rattle.flick_engine.proofs.RepliesOfBacks.{one_reply}

module _ (b : Binding) (op : ℕ) (o : List ℕ) where
  -- ---- what is found first: too many octets, a head, or its fault

  abbrev Found : Type 0
  Found = Option (Result Heard HeadErr)

  abbrev IsFound : Found → Type 0
  IsFound None = longest_message < length o
  IsFound (Some (Err e)) = IsShort o × ReplyStops b op o e
  IsFound (Some (Ok t)) = IsShort o × BeginsReply b op o t

  one_found : (f g : Found) → IsFound f → IsFound g → f ≡ g
  one_found None None p q = refl
  one_found None (Some (Err e)) p q = absurd (omega (arith, p, q.0))
  one_found None (Some (Ok t)) p q = absurd (omega (arith, p, q.0))
  one_found (Some (Err d)) None p q = absurd (omega (arith, q, p.0))
  one_found (Some (Err d)) (Some (Err e)) p q = ap (λ (x : HeadErr). Some (Err x)) ((one_reply b op o).one_fault d e p.1 q.1)
  one_found (Some (Err d)) (Some (Ok t)) p q = absurd ((one_reply b op o).not_both t d q.1 p.1)
  one_found (Some (Ok t)) None p q = absurd (omega (arith, q, p.0))
  one_found (Some (Ok t)) (Some (Err e)) p q = absurd ((one_reply b op o).not_both t e p.1 q.1)
  one_found (Some (Ok t)) (Some (Ok u)) p q = ap (λ (x : Heard). Some (Ok x)) ((one_reply b op o).one_head t u p.1 q.1)

  -- ---- what that makes of the message

  abbrev Answer : Type 0
  Answer = Result Replied MessageErr

  -- what the body that was read makes of an answer with an arm
  abbrev after_body : Heard → ℕ → Reading FaultKind Val → Answer
  after_body t k (stop kind at) = Err (err.Body (record { kind = kind; at = at }))
  after_body t k (got v q []) = Ok (record { head = t.head; came = answered (arm (pos k) v) })
  after_body t k (got v q (x ∷ rest)) = Err (err.Trailing q)

  -- a refusal that octets follow which may not, or another
  abbrev after_refusal : Heard → Refusal → Bool → Answer
  after_refusal t why false = Ok (record { head = t.head; came = refused why })
  after_refusal t why true = Err (err.Trailing t.used)

  -- what the octets after the head make of how the call fared
  abbrev after_fate : Heard → Fate → Answer
  after_fate t (fates.Arm k) = after_body t k (read t.encoding (arm_type b op k) t.used (drop t.used o))
  after_fate t (fates.Refused why) = after_refusal t why (is_followed why t.used o)

  abbrev after : Found → Answer
  after None = Err err.Long
  after (Some (Err e)) = Err (err.Head e)
  after (Some (Ok t)) = after_fate t t.fate

  -- ---- each answer is what is made of what is found

  abbrev IsMadeOf : Answer → Type 0
  IsMadeOf x = (f : Found) × IsFound f × (x ≡ after f)

  when_said : (t : Heard) (f : Fate) (x : Answer) → Says b op o t f → after_fate t f ≡ x → IsMadeOf x
  when_said t f x (short, starts, is) e = (Some (Ok t), (short, starts), sym e ∙ ap (after_fate t) (sym is))

  when_answered : (t : Heard) (k : ℕ) (r : Reading FaultKind Val) (x : Answer) → Says b op o t (fates.Arm k)
      → read t.encoding (arm_type b op k) t.used (drop t.used o) ≡ r → after_body t k r ≡ x → IsMadeOf x
  when_answered t k r x says is e = when_said t (fates.Arm k) x says (ap (after_body t k) is ∙ e)

  when_refused : (t : Heard) (why : Refusal) (followed : Bool) (x : Answer) → Says b op o t (fates.Refused why) → is_followed why t.used o
      ≡ followed
      → after_refusal t why followed ≡ x → IsMadeOf x
  when_refused t why followed x says is e = when_said t (fates.Refused why) x says (ap (after_refusal t why) is ∙ e)

  trailing : (t : Heard) (k : ℕ) (v : Val) (q : ℕ) (rest : List ℕ) → 0 < length rest → after_body t k (got v q rest) ≡ Err (err.Trailing q)
  trailing t k v q [] h = absurd (omega arith)
  trailing t k v q (x ∷ rest) h = refl

  when_came : (head : Head) (c : Came) → CameTo b op o head c → IsMadeOf (Ok (record { head = head; came = c }))
  when_came head (answered v) (t, k, says, (same, (w, is, spells))) =
      when_answered t k _ _ says (whole_read t.encoding (arm_type b op k) t.used (drop t.used o) w spells) (rw (← same, ← is) refl)
  when_came head (refused why) (t, r, says, (same, is, alone)) = when_refused t r false _ says alone (rw (← same, ← is) refl)

  when_read : (x : Answer) → ReadReply b op o x → IsMadeOf x
  when_read (Err err.Long) h = (None, h, refl)
  when_read (Err (err.Head e)) h = (Some (Err e), h, refl)
  when_read (Err (err.Body f)) (t, k, says, stops) =
      when_answered t k _ _ says ((grammar t.encoding (arm_type b op k)).stops t.used (drop t.used o) f.kind f.at stops) refl
  when_read (Err (err.Trailing at)) (inl (t, k, says, (w, used, spells, is, more))) =
      let left : 0 < length (drop used (drop t.used o)) = omega (arith, length-drop t.used o, length-drop used (drop t.used o), is, more) in
      when_answered t k _ _ says (first_read t.encoding (arm_type b op k) t.used (drop t.used o) w used spells)
      (trailing t k w (t.used + used) (drop used (drop t.used o)) left ∙ ap (λ n. Err (err.Trailing n)) (sym is))
  when_read (Err (err.Trailing at)) (inr (t, why, says, (is, more))) =
      when_refused t why true _ says more (ap (λ n. Err (err.Trailing n)) (sym is))
  when_read (Err err.NoInterface) h = absurd h
  when_read (Err err.NoOperation) h = absurd h
  when_read (Err err.NoMemory) h = absurd h
  when_read (Ok r) h = when_came r.head r.came h

  -- ---- so it is determined

  pub determined_reply : (x y : Answer) → ReadReply b op o x → ReadReply b op o y → x ≡ y
  determined_reply x y h g =
      let (f, p, e) = when_read x h in
      let (k, q, d) = when_read y g in
      e ∙ ap after (one_found f k p q) ∙ sym d

  pub exactly_reply : (x : Answer) → ReadReply b op o x → IsExactlyReply b op o x
  exactly_reply x h y = ((λ e. subst (ReadReply b op o) e h), determined_reply x y h)
