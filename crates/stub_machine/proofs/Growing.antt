-- What is done only grows, by induction on the steps.
use Rattle.std.proofs.Common.{◌≡◌, ℕ, ℤ, pos, ◌+◌, ◌<◌, ◌≤◌, List, [], ◌∷◌, ◌++◌, length, drop, get_or, map, replicate, Option, Some, None, refl, sym, ap, subst, ◌∙◌, arith, Bool, true, false, nat_le, if◌then◌else◌, length-append, Result, Ok, Err, OnErr}
use Rattle.std.proofs.lemmas.Bool.{leb-true}
use Rattle.kit_base.specs.Bytes.{written}
use Rattle.mint.specs.declared.value.Value.{Value}
use Rattle.mint.specs.Values.{Val, seen, all_seen, vals_of, num}
use Rattle.wire_def.specs.Scalars.{gap}
use Rattle.wire_def.specs.declared.head.Head.{Head}
use Rattle.raw_buf.specs.Buf.{Buf}
use Rattle.raw_buf.proofs.Standing.{none_fell-refl, none_fell-trans}
use Rattle.cast_stub.specs.declared.send.SendOp.{SendOp}
use Rattle.cast_stub.specs.declared.send.SendOp.TheVariants as op
use Rattle.cast_stub.specs.Block.{Block, stop, Piece, op_seen, code_seen}
use Rattle.cast_stub.specs.Steps.{Step, Room, Pad, Stored, Widened, Copied, Patched, Steps, both, Calls, over, steps, code_steps, each_steps, some_steps, switch_steps}
use Rattle.cast_stub.specs.Subs.{call_steps}
use Rattle.cast_stub.proofs.Appending.{steps-append, op-append}
use Rattle.cast_stub.proofs.Pieces.{seen-Each, seen-Some, seen-Switch, seen-Call}
use Rattle.stub_machine.specs.Run.{State, state_of, act, ran, ended, Ends, Grown}
use Rattle.stub_machine.proofs.Folds.{ended-both}
use Rattle.cast_stub.proofs.Codes.{code-drop}
use Rattle.stub_machine.proofs.Running.{Left, block_step, over-drop, numbers-drop}
use Rattle.cast_stub.proofs.Patched.{length-written, four}
use Rattle.cast_stub.proofs.Filled.{opened}

-- ---- single steps

appended_grows : (b : Bool) (o : List ℕ) (s t u : State) → t.done ≡ s.done ++ o → (if b then Some t else None) ≡ Some u
    → length s.done ≤ length u.done
appended_grows true o s t u d e =
    let same : t ≡ u = cc in
    omega (arith, ap (λ (x : State). length x.done) same, ap length d, length-append s.done o)
appended_grows false o s t u d e = absurd cc

patch_grows : (b : Bool) (at : ℕ) (o : List ℕ) (s t u : State) → nat_le (at + 4) (length s.done) ≡ b → length o ≡ 4
    → t.done ≡ written s.done at o → (if b then Some t else None) ≡ Some u
    → length s.done ≤ length u.done
patch_grows true at o s t u fits four d e =
    let same : t ≡ u = cc in
    let high : at + 4 ≤ length s.done = leb-true (at + 4) (length s.done) fits in
    let long : length (written s.done at o) ≡ length s.done = length-written at o s.done (omega arith) in
    omega (arith, ap (λ (x : State). length x.done) same, ap length d, long)
patch_grows false at o s t u fits four d e = absurd cc

kept_grows : (s t u : State) → t.done ≡ s.done → Some t ≡ Some u → length s.done ≤ length u.done
kept_grows s t u d e =
    let same : t ≡ u = cc in
    omega (arith, ap (λ (x : State). length x.done) same, ap length d)

act-grows : (x : Step) (s u : State) → act x s ≡ Some u → length s.done ≤ length u.done
act-grows (Room n) s u e = kept_grows s _ u refl e
act-grows (Pad a) s u e =
    appended_grows (nat_le (length (replicate (gap (length s.done) a) 0)) s.ahead) (replicate (gap (length s.done) a) 0) s _ u refl e
act-grows (Stored o k) s u e = appended_grows (nat_le (length o) s.ahead) o s _ u refl e
act-grows (Widened o k) s u e = appended_grows (nat_le (length o) s.ahead) o s _ u refl e
act-grows (Copied o) s u e = appended_grows (nat_le (length o) s.ahead) o s _ u refl e
act-grows (Patched at sub order) s u e = patch_grows (nat_le (at + 4) (length s.done)) at _ s _ u refl (four order _) refl e

ran-grows : (ss : List Step) (s u : State) → ran ss s ≡ Some u → length s.done ≤ length u.done
ran-grows [] s u e =
    let same : s ≡ u = cc in
    omega (arith, ap (λ (x : State). length x.done) same)
ran-grows (x ∷ ss) s u e =
    let k = opened (act x s) (ran ss) u e in
    omega (arith, act-grows x s k.0 k.1, ran-grows ss k.0 u k.2)

pub ended-grows : (x : Steps) (s u : State) → Ends x s u → length s.done ≤ length u.done
ended-grows None s u e = absurd cc
ended-grows (Some ss) s u e = ran-grows ss s u e

-- ---- parts of a run

pub grown-same : (x : Steps) (s : State) → Grown x s s
grown-same x s = record { grows = ended-grows x s; spent = none_fell-refl s.spent }

pub grown-kept : (x : Steps) (b c : Buf) → c ≡ b → Grown x (state_of b) (state_of c)
grown-kept x b c e = subst (λ (d : Buf). Grown x (state_of b) (state_of d)) (sym e) (grown-same x (state_of b))

pub first-grown : (x y : Steps) (s t : State) → Grown x s t → Grown (both x y) s t
first-grown x y s t g = record {
  grows = λ (u : State) e.
      let k = opened (ended x s) (ended y) u (sym (ended-both x y s) ∙ e) in
      omega (arith, g.grows k.0 k.1, ended-grows y k.0 u k.2);
  spent = g.spent;
}

pub left-grown : (all left : Steps) (s t : State) → Left all left s t → Grown all s t
left-grown all left s t l = record { grows = λ (u : State) e. ended-grows left t u (sym l.same ∙ e); spent = l.spent }

pub grown-after : (all left : Steps) (s t u : State) → Left all left s t → Grown left t u → Grown all s u
grown-after all left s t u l g =
    record { grows = λ (w : State) e. g.grows w (sym l.same ∙ e); spent = none_fell-trans s.spent t.spent u.spent l.spent g.spent }

-- ---- where a loop is broken off

pub block_grown : (c : Calls) (h : Head) (v : Val) (ops : List SendOp) (i : ℕ) (d : SendOp) (s t u : State)
    → Left (code_steps c h ops v) (code_steps c h (drop i ops) v) s t → i < length ops → d ≡ get_or ops i d
    → Grown (steps c h (op_seen d stop) v) t u
    → Grown (code_steps c h ops v) s u
block_grown c h v ops i d s t u left lt same g =
    let rest = code_seen (drop (i + 1) ops) in
    let whole : code_steps c h (drop i ops) v ≡ both (steps c h (op_seen d stop) v) (steps c h rest v) =
    ap (λ (b : Block). steps c h b v) (code-drop ops i d lt) ∙ ap (λ (o : SendOp). steps c h (op_seen o rest) v) (sym same)
    ∙ ap (λ (b : Block). steps c h b v) (sym (op-append d stop rest)) ∙ steps-append c h (op_seen d stop) rest v in
    grown-after (code_steps c h ops v) (code_steps c h (drop i ops) v) s t u left
    (subst (λ (x : Steps). Grown x t u) (sym whole) (first-grown (steps c h (op_seen d stop) v) (steps c h rest v) t u g))

pub block_broken : (c : Calls) (h : Head) (v : Val) (ops : List SendOp) (i : ℕ) (d : SendOp) (s t u : State)
    → Left (code_steps c h ops v) (code_steps c h (drop i ops) v) s t → i < length ops → d ≡ get_or ops i d
    → ((r : Block) → ended (steps c h (op_seen d r) v) t ≡ ended (steps c h r v) u)
    → Grown (code_steps c h ops v) s u
block_broken c h v ops i d s t u left lt same e =
    left-grown (code_steps c h ops v) (code_steps c h (drop (i + 1) ops) v) s u (block_step c h v ops i d s t u left lt same e)

pub items_grown : (f : Val → Steps) (vs : List Value) (i : ℕ) (d : Value) (s t u : State)
    → Left (over f (all_seen vs)) (over f (all_seen (drop i vs))) s t → i < length vs → d ≡ get_or vs i d → Grown (f (seen d)) t u
    → Grown (over f (all_seen vs)) s u
items_grown f vs i d s t u left lt same g =
    let rest = over f (all_seen (drop (i + 1) vs)) in
    let whole : over f (all_seen (drop i vs)) ≡ both (f (seen d)) rest =
    over-drop f vs i d lt ∙ ap (λ (o : Value). both (f (seen o)) rest) (sym same) in
    grown-after (over f (all_seen vs)) (over f (all_seen (drop i vs))) s t u left
    (subst (λ (x : Steps). Grown x t u) (sym whole) (first-grown (f (seen d)) rest t u g))

pub numbers_grown : (f : Val → Steps) (ns : List ℤ) (i : ℕ) (s t u : State)
    → Left (over f (vals_of (map num ns))) (over f (vals_of (map num (drop i ns)))) s t → i < length ns
    → Grown (f (num (get_or ns i (pos 0)))) t u
    → Grown (over f (vals_of (map num ns))) s u
numbers_grown f ns i s t u left lt g =
    let rest = over f (vals_of (map num (drop (i + 1) ns))) in
    grown-after (over f (vals_of (map num ns))) (over f (vals_of (map num (drop i ns)))) s t u left
    (subst (λ (x : Steps). Grown x t u) (sym (numbers-drop f ns i (pos 0) lt)) (first-grown (f (num (get_or ns i (pos 0)))) rest t u g))

-- ---- operations by cases

piece_grown : (c : Calls) (h : Head) (v : Val) (o : SendOp) (p : Piece) (x : Steps) (s t : State) → op_seen o ≡ p
    → steps c h (p stop) v ≡ both x (Some []) → Grown x s t
    → Grown (steps c h (op_seen o stop) v) s t
piece_grown c h v o p x s t is e g =
    subst (λ (y : Steps). Grown y s t) (sym (ap (λ (q : Piece). steps c h (q stop) v) is ∙ e)) (first-grown x (Some []) s t g)

pub each_grown : (c : Calls) (h : Head) (v : Val) (o : SendOp) (path : List ℕ) (body : List SendOp) (s t : State)
    → o ≡ op.Each path body → Grown (each_steps c h path body v) s t
    → Grown (steps c h (op_seen o stop) v) s t
each_grown c h v o path body s t is g = piece_grown c h v o _ (each_steps c h path body v) s t (ap op_seen is ∙ seen-Each path body) refl g

pub some_grown : (c : Calls) (h : Head) (v : Val) (o : SendOp) (path : List ℕ) (body : List SendOp) (s t : State)
    → o ≡ op.Some path body → Grown (some_steps c h path body v) s t
    → Grown (steps c h (op_seen o stop) v) s t
some_grown c h v o path body s t is g = piece_grown c h v o _ (some_steps c h path body v) s t (ap op_seen is ∙ seen-Some path body) refl g

pub switch_grown : (c : Calls) (h : Head) (v : Val) (o : SendOp) (path : List ℕ) (cases : List (ℤ × List SendOp))
    (other : Option (List SendOp)) (s t : State)
    → o ≡ op.Switch path cases other → Grown (switch_steps c h path cases other v) s t
    → Grown (steps c h (op_seen o stop) v) s t
switch_grown c h v o path cases other s t is g =
    piece_grown c h v o _ (switch_steps c h path cases other v) s t (ap op_seen is ∙ seen-Switch path cases other) refl g

pub call_grown : (c : Calls) (h : Head) (v : Val) (o : SendOp) (k : ℕ) (path : List ℕ) (s t : State)
    → o ≡ op.Call k path → Grown (call_steps c k path v) s t
    → Grown (steps c h (op_seen o stop) v) s t
call_grown c h v o k path s t is g = piece_grown c h v o _ (call_steps c k path v) s t (ap op_seen is ∙ seen-Call k path) refl g

pub err_map : {A E : Type 0} (r : Result A E) (P Q : Type 0) → (P → Q) → OnErr r P → OnErr r Q
err_map (Ok x) P Q f h = h
err_map (Err x) P Q f h = f h

pub on_err : {A E : Type 0} (r : Result A E) (P : Type 0) → P → OnErr r P
on_err (Ok x) P p = tt
on_err (Err x) P p = p

pub ruleset growing = (grown-same, left-grown, each_grown, some_grown, call_grown)
