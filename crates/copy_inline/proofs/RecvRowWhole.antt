-- What the pass promises, of code that receives and is the given one with its rows as blocks.
use Rattle.std.proofs.Common.{◌≡◌, inl, inr, ℕ, suc, arith, List, [], ◌∷◌, ◌++◌, Option, None, Some, option_map, refl, sym, ap, subst, ◌∙◌}
use Rattle.mint.specs.declared.kind.Count.{Count}
use Rattle.mint.specs.declared.kind.Count.TheVariants.{Exactly, AtMost, Any}
use Rattle.mint.specs.Types.{Ty, void_type, scalar_type, array_type, group_type, items_type, choice_type, maybe_type, Tys, no_fields, field, Arms, no_other, others, arm_type}
use Rattle.mint.specs.Values.{Val}
use Rattle.wire_def.specs.declared.encoding.Encoding.{Encoding}
use Rattle.wire_def.specs.declared.head.Order.{Order}
use Rattle.wire_def.specs.Places.{IsPlace}
use Rattle.cast_stub.specs.declared.recv.RecvCode.{RecvCode}
use Rattle.cast_stub.specs.RecvAppend.{append}
use Rattle.cast_stub.specs.RecvBlock.{Recv, finish, need, need_row, skip_any, skip_zero, pass, desc, row_block, row_wide, each, switch, if_there, call, Cases, no_default, default, case, code_seen}
use Rattle.cast_stub.specs.Draft.{fresh}
use Rattle.cast_stub.specs.Fill.{fill}
use Rattle.cast_stub.specs.Got.{no_subs, calls_of, received, IsExact}
use Rattle.cast_stub.specs.Kept.{StaysSoundAt}
use Rattle.cast_stub.specs.Layouts.{order_of, layout_of, element_width}
use Rattle.cast_stub.specs.Parts.{on_some}
use Rattle.cast_stub.specs.PartTypes.{ty_at, present_type, present_at, arms_type, arms_at}
use Rattle.cast_stub.specs.Runs.{Run, gives, refuses, strays}
use Rattle.cast_stub.specs.Subs.{deepest}
use Rattle.cast_stub.specs.Traces.{descs, IsCount, Going, Child, TracesBy, FieldsTraceBy, ArmsTraceBy, IsTurned}
use Rattle.cast_stub.proofs.RecvAppending.{append-finish, append-assoc}
use Rattle.hoist.proofs.Ways.{AreFrom, from-first, from-next, from-head, ty-field}
use Rattle.copy_inline.specs.declared.sorts.Sort.{Sort}
use Rattle.copy_inline.specs.declared.sorts.Sort.TheVariants as sort
use Rattle.copy_inline.specs.Ready.{OfType}
use Rattle.copy_inline.specs.Rowed.{by_type}
use Rattle.copy_inline.specs.Sorts.{sort_of}
use Rattle.copy_inline.specs.RecvCallFree.{HasNoCall, CasesHaveNoCall}
use Rattle.copy_inline.specs.RecvReady.{LoopIs, IsReady, CasesReady}
use Rattle.copy_inline.specs.RecvRowed.{row_or_loop, loop_rowed, rowed, cases_rowed}
use Rattle.copy_inline.specs.RecvRows.{IsGiven, IsRowed, EndsAlike, GivesTheSame}
use Rattle.copy_inline.proofs.RowReady.{of_type}
use Rattle.copy_inline.proofs.RecvSteps.{alike}
use Rattle.copy_inline.proofs.RecvTimed.{settled_alike}
use Rattle.copy_inline.proofs.RecvTyped.{fresh_is}
use Rattle.cast_stub.proofs.Followed.{mapped}

-- ---- what is given is ready

-- without codes to call, a child is its own code
own : (F : Going) (below : ℕ) (p : List ℕ) (b : Recv) → Child no_subs F below p b → F below p b
own F below p b (inl f) = f
own F below p b (inr c) = absurd (let none = c.4 in cc)

module _ (e : Encoding) (t0 : Ty) where
  flat_ready : (b r : Recv) (n : ℕ) → descs b ≡ Some n → IsReady e t0 r → IsReady e t0 (append b r)
  flat_ready finish r n f h = h
  flat_ready (need k b) r n f h = flat_ready b r n f h
  flat_ready (skip_any a b) r n f h = flat_ready b r n f h
  flat_ready (skip_zero a b) r n f h = flat_ready b r n f h
  flat_ready (pass k gs b) r n f h = flat_ready b r n f h
  flat_ready (desc p name size mul b) r n f h = let m = mapped suc (descs b) n f in flat_ready b r m.0 m.1 h
  flat_ready _ r n f h = absurd cc

  count_ready : (p : List ℕ) (k : Count) (b r : Recv) → IsCount p k b → IsReady e t0 r → IsReady e t0 (append b r)
  count_ready p (Exactly n) b r f h = subst (λ (x : Recv). IsReady e t0 (append x r)) (sym f) h
  count_ready p (AtMost n) b r f h = flat_ready b r 0 f.0 h
  count_ready p Any b r f h = flat_ready b r 0 f.0 h

module _ (e : Encoding) where
  mutual
    ready : (t : Ty) (below : ℕ) (p : List ℕ) (b r : Recv) (t0 : Ty) → ty_at p t0 ≡ Some t
        → TracesBy (IsTurned (layout_of e)) no_subs t below p b → IsReady e t0 r
        → IsReady e t0 (append b r)
    ready void_type below p b r t0 is f h = subst (λ (x : Recv). IsReady e t0 (append x r)) (sym f) h
    ready (scalar_type s) below p b r t0 is f h = flat_ready e t0 b r 0 f.0 h
    ready (array_type a) below p b r t0 is f h =
        let l = f.loop in
        let w : append b r ≡ append l.before (each p l.turn (append l.after r)) =
        ap (λ (x : Recv). append x r) l.whole ∙ append-assoc l.before (each p l.turn l.after) r in
        let loop : LoopIs e (ty_at p t0) l.turn (λ u. IsReady e u l.turn) =
        subst (λ (x : Option Ty). LoopIs e x l.turn (λ u. IsReady e u l.turn)) (sym is) (f.number, (l.turns).0) in
        subst (IsReady e t0) (sym w) (flat_ready e t0 l.before (each p l.turn (append l.after r)) l.first (l.begins).0
        (loop, flat_ready e t0 l.after r l.last (l.ends).0 h))
    ready (group_type ts) below p b r t0 is f h = fields_ready ts 0 ts below p b r t0 is (from-first ts) f h
    ready (items_type k t) below p b r t0 is f h =
        let w : append b r ≡ append f.0 (each p f.1 r) = ap (λ (x : Recv). append x r) f.2 ∙ append-assoc f.0 (each p f.1 finish) r in
        let body = subst (IsReady e t) (append-finish f.1)
        (ready t below [] f.1 finish t refl (own (TracesBy (IsTurned (layout_of e)) no_subs t) below [] f.1 f.4) tt) in
        let loop : LoopIs e (ty_at p t0) f.1 (λ u. IsReady e u f.1) =
        subst (λ (x : Option Ty). LoopIs e x f.1 (λ u. IsReady e u f.1)) (sym is) body in
        subst (IsReady e t0) (sym w) (count_ready e t0 p k f.0 (each p f.1 r) f.3 (loop, h))
    ready (choice_type s arms) below p b r t0 is f h =
        let w : append b r ≡ append f.0 (switch p f.1 r) = ap (λ (x : Recv). append x r) f.2 ∙ append-assoc f.0 (switch p f.1 finish) r in
        let body = of_type (arms_at p t0) (λ y. CasesReady e y f.1) arms (ap (λ (x : Option Ty). on_some x arms_type) is)
        (arms_ready arms below f.1 f.4) in
        subst (IsReady e t0) (sym w) (flat_ready e t0 f.0 (switch p f.1 r) 0 (f.3).0 (body, h))
    ready (maybe_type t) below p b r t0 is f h =
        let w : append b r ≡ append f.0 (if_there p f.1 r) =
        ap (λ (x : Recv). append x r) f.2 ∙ append-assoc f.0 (if_there p f.1 finish) r in
        let body = subst (IsReady e t) (append-finish f.1)
        (ready t below [] f.1 finish t refl (own (TracesBy (IsTurned (layout_of e)) no_subs t) below [] f.1 f.4) tt) in
        let there = of_type (present_at p t0) (λ y. IsReady e y f.1) t (ap (λ (x : Option Ty). on_some x present_type) is) body in
        subst (IsReady e t0) (sym w) (flat_ready e t0 f.0 (if_there p f.1 r) 0 (f.3).0 (there, h))

    fields_ready : (ts : Tys) (i : ℕ) (all : Tys) (below : ℕ) (p : List ℕ) (b r : Recv) (t0 : Ty) → ty_at p t0 ≡ Some (group_type all)
        → AreFrom i all ts → FieldsTraceBy (IsTurned (layout_of e)) no_subs ts i below p b → IsReady e t0 r
        → IsReady e t0 (append b r)
    fields_ready no_fields i all below p b r t0 is from f h = subst (λ (x : Recv). IsReady e t0 (append x r)) (sym f) h
    fields_ready (field t ts) i all below p b r t0 is from f h =
        let w : append b r ≡ append f.0 (append f.1 r) = ap (λ (x : Recv). append x r) f.2 ∙ append-assoc f.0 f.1 r in
        let rest = fields_ready ts (suc i) all below p f.1 r t0 is (from-next i all t ts from) f.4 h in
        subst (IsReady e t0) (sym w)
        (ready t below (p ++ i ∷ []) f.0 (append f.1 r) t0 (ty-field p i t0 (group_type all) t is (from-head i all t ts from))
        (own (TracesBy (IsTurned (layout_of e)) no_subs t) below (p ++ i ∷ []) f.0 f.3) rest)

    arms_ready : (arms : Arms) (below : ℕ) (cs : Cases) → ArmsTraceBy (IsTurned (layout_of e)) no_subs arms below cs → CasesReady e arms cs
    arms_ready no_other below cs f = subst (CasesReady e no_other) (sym f) tt
    arms_ready (others t) below cs f =
        subst (CasesReady e (others t)) (sym f.1) (subst (IsReady e t) (append-finish f.0)
        (ready t below [] f.0 finish t refl (own (TracesBy (IsTurned (layout_of e)) no_subs t) below [] f.0 f.2) tt))
    arms_ready (arm_type n t arms) below cs f =
        subst (CasesReady e (arm_type n t arms)) (sym f.2) (
          refl,
          subst (IsReady e t) (append-finish f.0)
              (ready t below [] f.0 finish t refl (own (TracesBy (IsTurned (layout_of e)) no_subs t) below [] f.0 f.3) tt),
          arms_ready arms below f.1 f.4,
        )

pub given_ready : (e : Encoding) (t : Ty) (code : RecvCode) → IsGiven e t code → IsReady e t (code_seen code.ops)
given_ready e t code given =
    subst (IsReady e t) (append-finish (code_seen code.ops)) (ready e t given.below [] (code_seen code.ops) finish t refl given.goes tt)

-- ---- no call

turn_free : (b : Recv) → descs b ≡ Some 0 → HasNoCall b
turn_free finish f = tt
turn_free (need n r) f = turn_free r f
turn_free (skip_any a r) f = turn_free r f
turn_free (skip_zero a r) f = turn_free r f
turn_free (pass n gs r) f = turn_free r f
turn_free (desc p name size mul r) f = absurd (none (descs r) f) where
  none : (z : Option ℕ) → option_map suc z ≡ Some 0 → ⊥
  none None g = cc
  none (Some n) g = let g' : suc n ≡ 0 = cc in omega (arith, g')
turn_free _ f = absurd cc

row_free : (s : Sort) (w : ℕ) (o : Order) (p : List ℕ) (b r : Recv) → HasNoCall b → HasNoCall r → HasNoCall (row_or_loop s w o p b r)
row_free sort.Block w o p b r h k = k
row_free sort.Wide w o p b r h k = k
row_free sort.Looped w o p b r h k = (h, k)

loop_free : (e : Encoding) (x : Option Ty) (p : List ℕ) (b r : Recv) → LoopIs e x b (λ u. IsReady e u b)
    → ((u : Ty) → IsReady e u b → HasNoCall (rowed e u b)) → HasNoCall r
    → HasNoCall (loop_rowed e x p b (λ u. rowed e u b) r)
loop_free e (Some (array_type a)) p b r ok go k = row_free (sort_of e a) (element_width e a) (order_of e) p b r (turn_free b ok.1) k
loop_free e (Some (items_type c t)) p b r ok go k = (go t ok, k)
loop_free e None p b r ok go k = absurd ok
loop_free e (Some _) p b r ok go k = absurd ok

pub typed_free : {A B : Type 0} (x : Option A) (b : B) (f : A → B) (P : A → Type 0) (Q : B → Type 0) → OfType x P → ((a : A) → P a
    → Q (f a))
    → Q (by_type x b f)
typed_free None b f P Q ok go = absurd ok
typed_free (Some a) b f P Q ok go = go a ok

mutual
  rowed_free : (e : Encoding) (b : Recv) (t : Ty) → IsReady e t b → HasNoCall (rowed e t b)
  rowed_free e finish t ok = tt
  rowed_free e (need n r) t ok = rowed_free e r t ok
  rowed_free e (need_row p u x r) t ok = absurd ok
  rowed_free e (skip_any a r) t ok = rowed_free e r t ok
  rowed_free e (skip_zero a r) t ok = rowed_free e r t ok
  rowed_free e (pass n gs r) t ok = rowed_free e r t ok
  rowed_free e (desc p name size mul r) t ok = rowed_free e r t ok
  rowed_free e (row_block p o r) t ok = absurd ok
  rowed_free e (row_wide p o r) t ok = absurd ok
  rowed_free e (each p b r) t ok = loop_free e (ty_at p t) p b (rowed e t r) ok.0 (λ u k. rowed_free e b u k) (rowed_free e r t ok.1)
  rowed_free e (switch p cs r) t ok = (
    typed_free (arms_at p t) cs (λ arms. cases_rowed e arms cs) (λ arms. CasesReady e arms cs) CasesHaveNoCall ok.0
        (λ arms k. cases_free e cs arms k),
    rowed_free e r t ok.1,
  )
  rowed_free e (if_there p b r) t ok = (
    typed_free (present_at p t) b (λ u. rowed e u b) (λ u. IsReady e u b) HasNoCall ok.0
        (λ u k. rowed_free e b u k),
    rowed_free e r t ok.1,
  )
  rowed_free e (call k p r) t ok = absurd ok

  cases_free : (e : Encoding) (cs : Cases) (arms : Arms) → CasesReady e arms cs → CasesHaveNoCall (cases_rowed e arms cs)
  cases_free e no_default no_other ok = tt
  cases_free e (default b) (others t) ok = rowed_free e b t ok
  cases_free e (case m b cs) (arm_type n t arms) ok = (rowed_free e b t ok.1, cases_free e cs arms ok.2)
  cases_free e no_default (others t) ok = absurd ok
  cases_free e no_default (arm_type n t arms) ok = absurd ok
  cases_free e (default b) no_other ok = absurd ok
  cases_free e (default b) (arm_type n t arms) ok = absurd ok
  cases_free e (case m b cs) no_other ok = absurd ok
  cases_free e (case m b cs) (others t) ok = absurd ok

-- ---- the promises

exact_alike : (e : Encoding) (t : Ty) (p : ℕ) (o : List ℕ) (x y : Run Val) → EndsAlike x y → IsExact e t p o x → IsExact e t p o y
exact_alike e t p o (gives v s) y h k = subst (IsExact e t p o) (sym h.1) k
exact_alike e t p o refuses y h k = subst (IsExact e t p o) (sym h) k
exact_alike e t p o strays y h k = absurd k

module _ (e : Encoding) (t : Ty) (given code : RecvCode) (of : IsGiven e t given) (is : IsRowed e t given code)
    (none : code.subs ≡ []) where
  pub gives_same : GivesTheSame t given code
  gives_same s =
      let run = alike e (calls_of given.subs deepest) (code_seen given.ops) t (given_ready e t given of) (fresh t) s s.tests (fresh_is t) in
      let met : fill (calls_of given.subs deepest) (rowed e t (code_seen given.ops)) (fresh t) s
      ≡ fill (calls_of code.subs deepest) (code_seen code.ops) (fresh t) s =
      ap (λ (b : Recv). fill (calls_of given.subs deepest) b (fresh t) s) (sym is)
      ∙ ap (λ subs. fill (calls_of subs deepest) (code_seen code.ops) (fresh t) s) (of.subs ∙ sym none) in
      settled_alike (fill (calls_of given.subs deepest) (code_seen given.ops) (fresh t) s)
      (fill (calls_of code.subs deepest) (code_seen code.ops) (fresh t) s)
      (subst (EndsAlike (fill (calls_of given.subs deepest) (code_seen given.ops) (fresh t) s)) met run.1)

  pub stays_sound : StaysSoundAt (IsPlace e) e t given code
  stays_sound sound s place octets short =
      exact_alike e t s.pos s.left (received given t s) (received code t s) (gives_same s) (sound s place octets short)

  pub has_no_call : HasNoCall (code_seen code.ops)
  has_no_call = subst HasNoCall (sym is) (rowed_free e (code_seen given.ops) t (given_ready e t given of))
