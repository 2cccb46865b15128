-- Code that the pass takes has loops of the one shape, whatever is ensured between, by induction on type and code.
use Rattle.std.proofs.Common.{◌≡◌, ℕ, suc, ◌+◌, List, [], ◌∷◌, ◌++◌, length, Option, None, Some, refl, sym, ap, subst, ◌∙◌}
use Rattle.mint.specs.declared.kind.Count.{Count}
use Rattle.mint.specs.declared.kind.Count.TheVariants.{Exactly, AtMost, Any}
use Rattle.mint.specs.Types.{Ty, void_type, scalar_type, array_type, group_type, items_type, choice_type, maybe_type, Tys, no_fields, field, Arms, no_other, others, arm_type}
use Rattle.wire_def.specs.declared.encoding.Encoding.{Encoding}
use Rattle.cast_stub.specs.declared.send.SendCode.{SendCode}
use Rattle.cast_stub.specs.Append.{append}
use Rattle.cast_stub.specs.Bare.{IsBare, CasesBare, OfItems, IfTyped, RowsAreBare, CasesRowsAreBare}
use Rattle.cast_stub.specs.Block.{Block, stop, ensure, ensure_row, align, chunk, row_copy, row_swap, row_wide, each, switch, if_there, call, patch, Cases, no_default, default, case, code_seen}
use Rattle.cast_stub.specs.Follows.{flat, IsCount, FollowsBy, FieldsFollowBy, ArmsFollowBy}
use Rattle.cast_stub.specs.Framed.{lead_length, IsTail}
use Rattle.cast_stub.specs.Kept.{unensured, cases_unensured}
use Rattle.cast_stub.specs.Layouts.{layout_of}
use Rattle.cast_stub.specs.Parts.{on_some}
use Rattle.cast_stub.specs.PartTypes.{ty_at, present_type, present_at, arms_type, arms_at}
use Rattle.cast_stub.specs.Subs.{no_subs}
use Rattle.cast_stub.specs.Turned.{IsTurned}
use Rattle.cast_stub.proofs.Appending.{append-stop, append-assoc}
use Rattle.cast_stub.proofs.Followed.{own, mapped}
use Rattle.hoist.proofs.Ways.{AreFrom, from-first, from-next, from-head, ty-field}
use Rattle.copy_inline.specs.Ready.{OfType, IsTurn, LoopIs, IsReady, CasesReady}
use Rattle.copy_inline.specs.Rows.{IsFramed, IsGiven}

-- ---- without ensures

module _ (e : Encoding) (t0 : Ty) where
  flat_ready : (b r : Block) (n : ℕ) → flat b ≡ Some n → IsReady e t0 r → IsReady e t0 (append b r)
  flat_ready stop r n f h = h
  flat_ready (chunk s ps b) r n f h = let m = mapped (λ k. length ps + k) (flat b) n f in flat_ready b r m.0 m.1 h
  flat_ready (align a b) r n f h = let m = mapped suc (flat b) n f in flat_ready b r m.0 m.1 h
  flat_ready _ r n f h = absurd cc

  count_ready : (k : Count) (b r : Block) → IsCount k b → IsReady e t0 r → IsReady e t0 (append b r)
  count_ready (Exactly n) b r f h = subst (λ (x : Block). IsReady e t0 (append x r)) (sym f) h
  count_ready (AtMost n) b r f h = flat_ready b r f.0 f.1 h
  count_ready Any b r f h = flat_ready b r f.0 f.1 h

-- a fact of a type that is there
pub of_type : {A : Type 0} (x : Option A) (P : A → Type 0) (a : A) → x ≡ Some a → P a → OfType x P
of_type x P a e h = subst (λ y. OfType y P) (sym e) h

module _ (e : Encoding) where
  mutual
    ready : (t : Ty) (below : ℕ) (p : List ℕ) (b r : Block) (t0 : Ty) → ty_at p t0 ≡ Some t
        → FollowsBy (IsTurned (layout_of e)) no_subs t below p b → IsReady e t0 r
        → IsReady e t0 (append b r)
    ready void_type below p b r t0 is f h = flat_ready e t0 b r f.0 f.1 h
    ready (scalar_type s) below p b r t0 is f h = flat_ready e t0 b r f.0 f.1 h
    ready (array_type a) below p b r t0 is f h =
        let w : append b r ≡ append f.0 (each p f.1 (append f.2 r)) =
        ap (λ (x : Block). append x r) f.6 ∙ append-assoc f.0 (each p f.1 f.2) r in
        let loop : LoopIs e (ty_at p t0) f.1 (λ u. IsReady e u f.1) =
        subst (λ (x : Option Ty). LoopIs e x f.1 (λ u. IsReady e u f.1)) (sym is) (f.12, f.4, f.8) in
        subst (IsReady e t0) (sym w) (flat_ready e t0 f.0 (each p f.1 (append f.2 r)) f.3 f.7 (loop, flat_ready e t0 f.2 r f.5 f.9 h))
    ready (group_type ts) below p b r t0 is f h = fields_ready ts 0 ts below p b r t0 is (from-first ts) f h
    ready (items_type k t) below p b r t0 is f h =
        let w : append b r ≡ append f.0 (each p f.1 r) = ap (λ (x : Block). append x r) f.2 ∙ append-assoc f.0 (each p f.1 stop) r in
        let body = subst (IsReady e t) (append-stop f.1)
        (ready t below [] f.1 stop t refl (own (FollowsBy (IsTurned (layout_of e)) no_subs t) below [] f.1 f.4) tt) in
        let loop : LoopIs e (ty_at p t0) f.1 (λ u. IsReady e u f.1) =
        subst (λ (x : Option Ty). LoopIs e x f.1 (λ u. IsReady e u f.1)) (sym is) body in
        subst (IsReady e t0) (sym w) (count_ready e t0 k f.0 (each p f.1 r) f.3 (loop, h))
    ready (choice_type s arms) below p b r t0 is f h =
        let w : append b r ≡ append f.0 (switch p f.1 r) = ap (λ (x : Block). append x r) f.2 ∙ append-assoc f.0 (switch p f.1 stop) r in
        let body = of_type (arms_at p t0) (λ y. CasesReady e y f.1) arms (ap (λ (x : Option Ty). on_some x arms_type) is)
        (arms_ready arms below f.1 f.4) in
        subst (IsReady e t0) (sym w) (flat_ready e t0 f.0 (switch p f.1 r) (f.3).0 (f.3).1 (body, h))
    ready (maybe_type t) below p b r t0 is f h =
        let w : append b r ≡ append f.0 (if_there p f.1 r) =
        ap (λ (x : Block). append x r) f.2 ∙ append-assoc f.0 (if_there p f.1 stop) r in
        let body = subst (IsReady e t) (append-stop f.1)
        (ready t below [] f.1 stop t refl (own (FollowsBy (IsTurned (layout_of e)) no_subs t) below [] f.1 f.4) tt) in
        let there = of_type (present_at p t0) (λ y. IsReady e y f.1) t (ap (λ (x : Option Ty). on_some x present_type) is) body in
        subst (IsReady e t0) (sym w) (flat_ready e t0 f.0 (if_there p f.1 r) (f.3).0 (f.3).1 (there, h))

    fields_ready : (ts : Tys) (i : ℕ) (all : Tys) (below : ℕ) (p : List ℕ) (b r : Block) (t0 : Ty) → ty_at p t0 ≡ Some (group_type all)
        → AreFrom i all ts → FieldsFollowBy (IsTurned (layout_of e)) no_subs ts i below p b → IsReady e t0 r
        → IsReady e t0 (append b r)
    fields_ready no_fields i all below p b r t0 is from f h = subst (λ (x : Block). IsReady e t0 (append x r)) (sym f) h
    fields_ready (field t ts) i all below p b r t0 is from f h =
        let w : append b r ≡ append f.0 (append f.1 r) = ap (λ (x : Block). append x r) f.2 ∙ append-assoc f.0 f.1 r in
        let rest = fields_ready ts (suc i) all below p f.1 r t0 is (from-next i all t ts from) f.4 h in
        subst (IsReady e t0) (sym w)
        (ready t below (p ++ i ∷ []) f.0 (append f.1 r) t0 (ty-field p i t0 (group_type all) t is (from-head i all t ts from))
        (own (FollowsBy (IsTurned (layout_of e)) no_subs t) below (p ++ i ∷ []) f.0 f.3) rest)

    arms_ready : (arms : Arms) (below : ℕ) (cs : Cases) → ArmsFollowBy (IsTurned (layout_of e)) no_subs arms below cs → CasesReady e arms cs
    arms_ready no_other below cs f = subst (CasesReady e no_other) (sym f) tt
    arms_ready (others t) below cs f = subst (CasesReady e (others t)) (sym f.1) (subst (IsReady e t) (append-stop f.0)
        (ready t below [] f.0 stop t refl (own (FollowsBy (IsTurned (layout_of e)) no_subs t) below [] f.0 f.2) tt))
    arms_ready (arm_type n t arms) below cs f =
        subst (CasesReady e (arm_type n t arms)) (sym f.2) (
          refl,
          subst (IsReady e t) (append-stop f.0)
              (ready t below [] f.0 stop t refl (own (FollowsBy (IsTurned (layout_of e)) no_subs t) below [] f.0 f.3) tt),
          arms_ready arms below f.1 f.4,
        )

  lead_ready : (t : Ty) (b r : Block) (n : ℕ) → lead_length b ≡ Some n → IsReady e t r → IsReady e t (append b r)
  lead_ready t stop r n f h = h
  lead_ready t (chunk s ps b) r n f h = let m = mapped (λ k. s + k) (lead_length b) n f in lead_ready t b r m.0 m.1 h
  lead_ready t _ r n f h = absurd cc

  tail_ready : (t : Ty) (b : Block) → IsTail b → IsReady e t b
  tail_ready t stop h = tt
  tail_ready t (patch a s o stop) h = tt
  tail_ready t _ h = absurd h

  framed_ready : (t : Ty) (b : Block) → IsFramed e t b → IsReady e t b
  framed_ready t b f =
      subst (IsReady e t) (sym f.whole)
      (lead_ready t f.lead (append f.body f.tail) f.size f.leads
      (ready t f.below [] f.body f.tail t refl f.goes (tail_ready t f.tail f.ends)))

-- ---- with ensures

mutual
  pub bare_same : (b : Block) → IsBare b → unensured b ≡ b
  bare_same stop h = refl
  bare_same (align a r) h = ap (align a) (bare_same r h)
  bare_same (chunk s ps r) h = ap (chunk s ps) (bare_same r h)
  bare_same (each p b r) h = ap (λ (x : Block). each p x (unensured r)) (bare_same b h.0) ∙ ap (each p b) (bare_same r h.1)
  bare_same (switch p cs r) h = ap (λ (x : Cases). switch p x (unensured r)) (cases_same cs h.0) ∙ ap (switch p cs) (bare_same r h.1)
  bare_same (if_there p b r) h = ap (λ (x : Block). if_there p x (unensured r)) (bare_same b h.0) ∙ ap (if_there p b) (bare_same r h.1)
  bare_same (patch a s o r) h = ap (patch a s o) (bare_same r h)
  bare_same _ h = absurd h

  cases_same : (cs : Cases) → CasesBare cs → cases_unensured cs ≡ cs
  cases_same no_default h = refl
  cases_same (default b) h = ap default (bare_same b h)
  cases_same (case m b cs) h = ap (λ (x : Block). case m x (cases_unensured cs)) (bare_same b h.0) ∙ ap (case m b) (cases_same cs h.1)

module _ (e : Encoding) where
  -- bodies that are ready once their ensures are left out
  abbrev Again : Block → Type 0
  Again b = (u : Ty) → IsReady e u (unensured b) → RowsAreBare u b → IsReady e u b

  loop_again : (x : Option Ty) (b : Block) → LoopIs e x (unensured b) (λ u. IsReady e u (unensured b))
      → OfItems x (λ u. RowsAreBare u b) (IsBare b) → Again b
      → LoopIs e x b (λ u. IsReady e u b)
  loop_again (Some (array_type a)) b ok bare go = subst (IsTurn e a) (bare_same b bare) ok
  loop_again (Some (items_type c t)) b ok bare go = go t ok bare
  loop_again None b ok bare go = absurd ok
  loop_again (Some _) b ok bare go = absurd ok

  typed_again : {A : Type 0} (x : Option A) (P Q R : A → Type 0) → OfType x P → IfTyped x Q → ((a : A) → P a → Q a → R a) → OfType x R
  typed_again None P Q R h k go = absurd h
  typed_again (Some a) P Q R h k go = go a h k

  mutual
    again : (b : Block) → Again b
    again stop t ok bare = tt
    again (ensure n r) t ok bare = again r t ok bare
    again (ensure_row p u x r) t ok bare = again r t ok bare
    again (align a r) t ok bare = again r t ok bare
    again (chunk s ps r) t ok bare = again r t ok bare
    again (row_copy p r) t ok bare = absurd ok
    again (row_swap p r) t ok bare = absurd ok
    again (row_wide p o r) t ok bare = absurd ok
    again (each p b r) t ok bare = (loop_again (ty_at p t) b ok.0 bare.0 (again b), again r t ok.1 bare.1)
    again (switch p cs r) t ok bare = (
      typed_again (arms_at p t) (λ arms. CasesReady e arms (cases_unensured cs)) (λ arms. CasesRowsAreBare arms cs)
          (λ arms. CasesReady e arms cs) ok.0 bare.0 (λ arms. cases_again cs arms),
      again r t ok.1 bare.1,
    )
    again (if_there p b r) t ok bare = (
      typed_again (present_at p t) (λ u. IsReady e u (unensured b)) (λ u. RowsAreBare u b) (λ u. IsReady e u b) ok.0 bare.0 (again b),
      again r t ok.1 bare.1,
    )
    again (call k p r) t ok bare = absurd ok
    again (patch a s o r) t ok bare = again r t ok bare

    cases_again : (cs : Cases) (arms : Arms) → CasesReady e arms (cases_unensured cs) → CasesRowsAreBare arms cs → CasesReady e arms cs
    cases_again no_default no_other ok bare = tt
    cases_again (default b) (others t) ok bare = again b t ok bare
    cases_again (case m b cs) (arm_type n t arms) ok bare = (ok.0, again b t ok.1 bare.0, cases_again cs arms ok.2 bare.1)
    cases_again no_default (others t) ok bare = absurd ok
    cases_again no_default (arm_type n t arms) ok bare = absurd ok
    cases_again (default b) no_other ok bare = absurd ok
    cases_again (default b) (arm_type n t arms) ok bare = absurd ok
    cases_again (case m b cs) no_other ok bare = absurd ok
    cases_again (case m b cs) (others t) ok bare = absurd ok

pub given_ready : (e : Encoding) (t : Ty) (code : SendCode) → IsGiven e t code → IsReady e t (code_seen code.ops)
given_ready e t code given = again e (code_seen code.ops) t (framed_ready e t (unensured (code_seen code.ops)) given.framed) given.bare
