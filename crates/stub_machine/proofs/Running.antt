-- One operation, element or number more.
use Rattle.std.proofs.Common.{◌≡◌, ℕ, ℤ, pos, zero, suc, slice_get, option_map, ◌+◌, ◌<◌, List, [], ◌∷◌, length, drop, get_or, map, Option, Some, None, refl, sym, ap, subst, ◌∙◌, add-one}
use Rattle.std.proofs.Math.Seq.{drop-cons}
use Rattle.mint.specs.declared.value.Value.{Value}
use Rattle.mint.specs.declared.value.Value.TheOpen.{Value-F}
use Rattle.mint.specs.declared.value.Value.TheVariants as value
use Rattle.mint.specs.declared.value.Value.TheFolds.{fold-roll-Value}
use Rattle.cast_stub.proofs.Pieces.{seen-Each, seen-Some, seen-Switch, seen-Call, seen-RowCopy, seen-RowSwap, seen-RowWide}
use Rattle.mint.specs.Values.{Val, num, seen, seen_level, all_seen, vals_of}
use Rattle.wire_def.specs.declared.head.Head.{Head}
use Rattle.cast_stub.specs.declared.send.SendOp.{SendOp}
use Rattle.cast_stub.specs.declared.send.SendOp.TheVariants as op
use Rattle.cast_stub.specs.Block.{Block, stop, Piece, op_seen, code_seen}
use Rattle.cast_stub.specs.Steps.{Steps, Calls, both, steps, over, code_steps, each_steps, some_steps, switch_steps, copy_steps, swap_steps, wide_steps}
use Rattle.mint.proofs.Places.{number_missing}
use Rattle.wire_def.specs.declared.head.Order.{Order}
use Rattle.stub_machine.specs.Run.{State, ended, Runs, Ends}
use Rattle.cast_stub.specs.Parts.{on_some, IsThere, at}
use Rattle.cast_stub.specs.Subs.{call_steps, calls_of}
use Rattle.cast_stub.proofs.Codes.{code-drop}
use Rattle.raw_buf.specs.Buf.{NoneFell}
use Rattle.raw_buf.proofs.Standing.{none_fell-refl, none_fell-trans}
use Rattle.stub_machine.proofs.Folds.{first-ends, first-runs, op-runs}
use Rattle.stub_machine.proofs.Spending.{ended-stands}

-- where a run is: what is left from here ends as the whole, and no count of what was spent fell
pub record Left (all left : Steps) (s t : State) : Type 0 where
  pub same : ended all s ≡ ended left t
  pub spent : NoneFell s.spent t.spent

pub left-refl : (x : Steps) (s : State) → Left x x s s
left-refl x s = record { same = refl; spent = none_fell-refl s.spent }

pub left-ends : (x : Steps) (s t : State) → Left x (Some []) s t → Ends x s t
left-ends x s t l = l.same

pub left-runs : (all left : Steps) (s t : State) → Left all left s t → Runs all s → Runs left t
left-runs all left s t l r = subst IsThere l.same r

-- ---- operations

-- ---- elements

pub over-drop : (f : Val → Steps) (vs : List Value) (i : ℕ) (d : Value) → i < length vs
    → over f (all_seen (drop i vs)) ≡ both (f (seen (get_or vs i d))) (over f (all_seen (drop (i + 1) vs)))
over-drop f vs i d h = rw (add-one, drop-cons vs i d) refl

pub numbers-drop : (f : Val → Steps) (ns : List ℤ) (i : ℕ) (d : ℤ) → i < length ns
    → over f (vals_of (map num (drop i ns))) ≡ both (f (num (get_or ns i d))) (over f (vals_of (map num (drop (i + 1) ns))))
numbers-drop f ns i d h = rw (add-one, drop-cons ns i d) refl

-- ---- steps of the loops

pub block_fits : (c : Calls) (h : Head) (v : Val) (ops : List SendOp) (i : ℕ) (d : SendOp) (s t : State)
    → Left (code_steps c h ops v) (code_steps c h (drop i ops) v) s t → i < length ops → d ≡ get_or ops i d → Runs (code_steps c h ops v) s
    → Runs (steps c h (op_seen d stop) v) t
block_fits c h v ops i d s t left lt same r =
    let whole : Runs (code_steps c h (drop i ops) v) t = left-runs (code_steps c h ops v) (code_steps c h (drop i ops) v) s t left r in
    let first : Runs (steps c h (op_seen (get_or ops i d) (code_seen (drop (i + 1) ops))) v) t =
    subst (λ (b : Block). Runs (steps c h b v) t) (code-drop ops i d lt) whole in
    subst (λ (o : SendOp). Runs (steps c h (op_seen o stop) v) t) (sym same)
    (op-runs c h (get_or ops i d) (code_seen (drop (i + 1) ops)) v t first)

pub block_step : (c : Calls) (h : Head) (v : Val) (ops : List SendOp) (i : ℕ) (d : SendOp) (s t u : State)
    → Left (code_steps c h ops v) (code_steps c h (drop i ops) v) s t → i < length ops → d ≡ get_or ops i d
    → ((r : Block) → ended (steps c h (op_seen d r) v) t ≡ ended (steps c h r v) u)
    → Left (code_steps c h ops v) (code_steps c h (drop (i + 1) ops) v) s u
block_step c h v ops i d s t u left lt same e =
    let rest = code_seen (drop (i + 1) ops) in
    record {
      same = left.same ∙ ap (λ (b : Block). ended (steps c h b v) t) (code-drop ops i d lt)
          ∙ ap (λ (o : SendOp). ended (steps c h (op_seen o rest) v) t) (sym same) ∙ e rest;
      spent = none_fell-trans s.spent t.spent u.spent left.spent (ended-stands (steps c h (op_seen d stop) v) t u (e stop));
    }

pub items_fit : (f : Val → Steps) (vs : List Value) (i : ℕ) (d : Value) (s t : State)
    → Left (over f (all_seen vs)) (over f (all_seen (drop i vs))) s t → i < length vs → d ≡ get_or vs i d → Runs (over f (all_seen vs)) s
    → Runs (f (seen d)) t
items_fit f vs i d s t left lt same r =
    let whole : Runs (over f (all_seen (drop i vs))) t = left-runs (over f (all_seen vs)) (over f (all_seen (drop i vs))) s t left r in
    let first : Runs (f (seen (get_or vs i d))) t = first-runs (f (seen (get_or vs i d))) (over f (all_seen (drop (i + 1) vs))) t
    (subst (λ (x : Steps). Runs x t) (over-drop f vs i d lt) whole) in
    subst (λ (o : Value). Runs (f (seen o)) t) (sym same) first

pub items_step : (f : Val → Steps) (vs : List Value) (i : ℕ) (d : Value) (s t u : State)
    → Left (over f (all_seen vs)) (over f (all_seen (drop i vs))) s t → i < length vs → d ≡ get_or vs i d → Ends (f (seen d)) t u
    → Left (over f (all_seen vs)) (over f (all_seen (drop (i + 1) vs))) s u
items_step f vs i d s t u left lt same e = record {
  same = left.same ∙ ap (λ (x : Steps). ended x t) (over-drop f vs i d lt)
      ∙ first-ends (f (seen (get_or vs i d))) (over f (all_seen (drop (i + 1) vs))) t u
      (subst (λ (o : Value). Ends (f (seen o)) t u) same e);
  spent = none_fell-trans s.spent t.spent u.spent left.spent (ended-stands (f (seen d)) t u e);
}

pub numbers_fit : (f : Val → Steps) (ns : List ℤ) (i : ℕ) (s t : State)
    → Left (over f (vals_of (map num ns))) (over f (vals_of (map num (drop i ns)))) s t → i < length ns
    → Runs (over f (vals_of (map num ns))) s
    → Runs (f (num (get_or ns i (pos 0)))) t
numbers_fit f ns i s t left lt r =
    let whole : Runs (over f (vals_of (map num (drop i ns)))) t =
    left-runs (over f (vals_of (map num ns))) (over f (vals_of (map num (drop i ns)))) s t left r in
    first-runs (f (num (get_or ns i (pos 0)))) (over f (vals_of (map num (drop (i + 1) ns)))) t
    (subst (λ (x : Steps). Runs x t) (numbers-drop f ns i (pos 0) lt) whole)

pub numbers_step : (f : Val → Steps) (ns : List ℤ) (i : ℕ) (s t u : State)
    → Left (over f (vals_of (map num ns))) (over f (vals_of (map num (drop i ns)))) s t → i < length ns
    → Ends (f (num (get_or ns i (pos 0)))) t u
    → Left (over f (vals_of (map num ns))) (over f (vals_of (map num (drop (i + 1) ns)))) s u
numbers_step f ns i s t u left lt e = record {
  same = left.same ∙ ap (λ (x : Steps). ended x t) (numbers-drop f ns i (pos 0) lt)
      ∙ first-ends (f (num (get_or ns i (pos 0)))) (over f (vals_of (map num (drop (i + 1) ns)))) t u e;
  spent = none_fell-trans s.spent t.spent u.spent left.spent (ended-stands (f (num (get_or ns i (pos 0)))) t u e);
}

-- ---- operations by cases

pub each_ends : (c : Calls) (h : Head) (v : Val) (o : SendOp) (path : List ℕ) (body : List SendOp) (s t : State)
    → o ≡ op.Each path body → Ends (each_steps c h path body v) s t → (r : Block)
    → ended (steps c h (op_seen o r) v) s ≡ ended (steps c h r v) t
each_ends c h v o path body s t is e r =
    ap (λ (p : Piece). ended (steps c h (p r) v) s) (ap op_seen is ∙ seen-Each path body)
    ∙ first-ends (each_steps c h path body v) (steps c h r v) s t e

pub each_runs : (c : Calls) (h : Head) (v : Val) (o : SendOp) (path : List ℕ) (body : List SendOp) (s : State)
    → o ≡ op.Each path body → Runs (steps c h (op_seen o stop) v) s
    → Runs (each_steps c h path body v) s
each_runs c h v o path body s is r =
    first-runs (each_steps c h path body v) (Some []) s
    (subst (λ (p : Piece). Runs (steps c h (p stop) v) s) (ap op_seen is ∙ seen-Each path body) r)

pub seen-Num : (n : ℤ) → seen (value.Num n) ≡ num n
seen-Num n = ap seen (sym (value.rolls-Num n)) ∙ fold-roll-Value Val seen_level (Value-F.Num n)

pub some_ends : (c : Calls) (h : Head) (v : Val) (o : SendOp) (path : List ℕ) (body : List SendOp) (s t : State)
    → o ≡ op.Some path body → Ends (some_steps c h path body v) s t → (r : Block)
    → ended (steps c h (op_seen o r) v) s ≡ ended (steps c h r v) t
some_ends c h v o path body s t is e r =
    ap (λ (p : Piece). ended (steps c h (p r) v) s) (ap op_seen is ∙ seen-Some path body)
    ∙ first-ends (some_steps c h path body v) (steps c h r v) s t e

pub some_runs : (c : Calls) (h : Head) (v : Val) (o : SendOp) (path : List ℕ) (body : List SendOp) (s : State)
    → o ≡ op.Some path body → Runs (steps c h (op_seen o stop) v) s
    → Runs (some_steps c h path body v) s
some_runs c h v o path body s is r =
    first-runs (some_steps c h path body v) (Some []) s
    (subst (λ (p : Piece). Runs (steps c h (p stop) v) s) (ap op_seen is ∙ seen-Some path body) r)

pub switch_ends : (c : Calls) (h : Head) (v : Val) (o : SendOp) (path : List ℕ) (cases : List (ℤ × List SendOp))
    (other : Option (List SendOp)) (s t : State)
    → o ≡ op.Switch path cases other → Ends (switch_steps c h path cases other v) s t → (r : Block)
    → ended (steps c h (op_seen o r) v) s ≡ ended (steps c h r v) t
switch_ends c h v o path cases other s t is e r =
    ap (λ (p : Piece). ended (steps c h (p r) v) s) (ap op_seen is ∙ seen-Switch path cases other)
    ∙ first-ends (switch_steps c h path cases other v) (steps c h r v) s t e

pub switch_runs : (c : Calls) (h : Head) (v : Val) (o : SendOp) (path : List ℕ) (cases : List (ℤ × List SendOp))
    (other : Option (List SendOp)) (s : State)
    → o ≡ op.Switch path cases other → Runs (steps c h (op_seen o stop) v) s
    → Runs (switch_steps c h path cases other v) s
switch_runs c h v o path cases other s is r =
    first-runs (switch_steps c h path cases other v) (Some []) s
    (subst (λ (p : Piece). Runs (steps c h (p stop) v) s) (ap op_seen is ∙ seen-Switch path cases other) r)

pub call_ends : (c : Calls) (h : Head) (v : Val) (o : SendOp) (k : ℕ) (path : List ℕ) (s t : State) → o ≡ op.Call k path
    → Ends (call_steps c k path v) s t → (r : Block)
    → ended (steps c h (op_seen o r) v) s ≡ ended (steps c h r v) t
call_ends c h v o k path s t is e r =
    ap (λ (p : Piece). ended (steps c h (p r) v) s) (ap op_seen is ∙ seen-Call k path)
    ∙ first-ends (call_steps c k path v) (steps c h r v) s t e

pub call_runs : (c : Calls) (h : Head) (v : Val) (o : SendOp) (k : ℕ) (path : List ℕ) (s : State) → o ≡ op.Call k path
    → Runs (steps c h (op_seen o stop) v) s
    → Runs (call_steps c k path v) s
call_runs c h v o k path s is r =
    first-runs (call_steps c k path v) (Some []) s
    (subst (λ (p : Piece). Runs (steps c h (p stop) v) s) (ap op_seen is ∙ seen-Call k path) r)

-- ---- calls that are not there

none_runs : (o : Option Val) (f : Val → Steps) (s : State) → ((w : Val) → f w ≡ None) → Runs (on_some o f) s → ⊥
none_runs None f s e r = r
none_runs (Some w) f s e r = subst (λ (x : Steps). Runs x s) (e w) r

pub no_calls_left : (subs : List (List SendOp)) (h : Head) (n k : ℕ) (path : List ℕ) (v : Val) (s : State) → n ≡ 0
    → Runs (call_steps (calls_of subs h n) k path v) s
    → ⊥
no_calls_left subs h n k path v s e r =
    none_runs (at path v) (calls_of subs h 0 k) s (λ w. refl) (subst (λ (m : ℕ). Runs (call_steps (calls_of subs h m) k path v) s) e r)

no_sub : (subs : List (List SendOp)) (h : Head) (n k : ℕ) (w : Val) → slice_get subs k ≡ None → calls_of subs h n k w ≡ None
no_sub subs h zero k w e = refl
no_sub subs h (suc n) k w e = ap (λ (o : Option (List SendOp)). on_some (option_map code_seen o) (λ b. steps (calls_of subs h n) h b w)) e

pub no_code : (subs : List (List SendOp)) (h : Head) (n k : ℕ) (path : List ℕ) (v : Val) (s : State)
    → slice_get subs k ≡ None → Runs (call_steps (calls_of subs h n) k path v) s
    → ⊥
no_code subs h n k path v s e r = none_runs (at path v) (calls_of subs h n k) s (λ w. no_sub subs h n k w e) r

-- the code of a call is what it runs, one call deeper
pub call_is : (subs : List (List SendOp)) (h : Head) (n m k : ℕ) (path : List ℕ) (code : List SendOp) (v w : Val)
    → n ≡ suc m → at path v ≡ Some w → slice_get subs k ≡ Some code
    → call_steps (calls_of subs h n) k path v ≡ code_steps (calls_of subs h m) h code w
call_is subs h n m k path code v w deep here is =
    ap (λ (x : ℕ). on_some (at path v) (calls_of subs h x k)) deep
    ∙ ap (λ (o : Option Val). on_some o (calls_of subs h (suc m) k)) here
    ∙ ap (λ (o : Option (List SendOp)). on_some (option_map code_seen o) (λ b. steps (calls_of subs h m) h b w)) is

-- ---- rows

pub row_copy_ends : (c : Calls) (h : Head) (v : Val) (o : SendOp) (path : List ℕ) (s t : State) → o ≡ op.RowCopy path
    → Ends (copy_steps path v) s t → (r : Block)
    → ended (steps c h (op_seen o r) v) s ≡ ended (steps c h r v) t
row_copy_ends c h v o path s t is e r =
    ap (λ (p : Piece). ended (steps c h (p r) v) s) (ap op_seen is ∙ seen-RowCopy path)
    ∙ first-ends (copy_steps path v) (steps c h r v) s t e

pub row_copy_runs : (c : Calls) (h : Head) (v : Val) (o : SendOp) (path : List ℕ) (s : State) → o ≡ op.RowCopy path
    → Runs (steps c h (op_seen o stop) v) s
    → Runs (copy_steps path v) s
row_copy_runs c h v o path s is r =
    first-runs (copy_steps path v) (Some []) s (subst (λ (p : Piece). Runs (steps c h (p stop) v) s) (ap op_seen is ∙ seen-RowCopy path) r)

pub row_swap_ends : (c : Calls) (h : Head) (v : Val) (o : SendOp) (path : List ℕ) (s t : State) → o ≡ op.RowSwap path
    → Ends (swap_steps path v) s t → (r : Block)
    → ended (steps c h (op_seen o r) v) s ≡ ended (steps c h r v) t
row_swap_ends c h v o path s t is e r =
    ap (λ (p : Piece). ended (steps c h (p r) v) s) (ap op_seen is ∙ seen-RowSwap path)
    ∙ first-ends (swap_steps path v) (steps c h r v) s t e

pub row_swap_runs : (c : Calls) (h : Head) (v : Val) (o : SendOp) (path : List ℕ) (s : State) → o ≡ op.RowSwap path
    → Runs (steps c h (op_seen o stop) v) s
    → Runs (swap_steps path v) s
row_swap_runs c h v o path s is r =
    first-runs (swap_steps path v) (Some []) s (subst (λ (p : Piece). Runs (steps c h (p stop) v) s) (ap op_seen is ∙ seen-RowSwap path) r)

pub row_wide_ends : (c : Calls) (h : Head) (v : Val) (o : SendOp) (path : List ℕ) (order : Order) (s t : State)
    → o ≡ op.RowWide path order → Ends (wide_steps path order v) s t → (r : Block)
    → ended (steps c h (op_seen o r) v) s ≡ ended (steps c h r v) t
row_wide_ends c h v o path order s t is e r =
    ap (λ (p : Piece). ended (steps c h (p r) v) s) (ap op_seen is ∙ seen-RowWide path order)
    ∙ first-ends (wide_steps path order v) (steps c h r v) s t e

pub row_wide_runs : (c : Calls) (h : Head) (v : Val) (o : SendOp) (path : List ℕ) (order : Order) (s : State)
    → o ≡ op.RowWide path order → Runs (steps c h (op_seen o stop) v) s
    → Runs (wide_steps path order v) s
row_wide_runs c h v o path order s is r =
    first-runs (wide_steps path order v) (Some []) s
    (subst (λ (p : Piece). Runs (steps c h (p stop) v) s) (ap op_seen is ∙ seen-RowWide path order) r)

pub ruleset running = (
  left-runs,
  each_runs,
  each_ends,
  some_runs,
  some_ends,
  call_runs,
  call_ends,
  row_copy_runs,
  row_copy_ends,
  row_swap_runs,
  row_swap_ends,
  row_wide_runs,
  row_wide_ends,
  no_calls_left,
  no_code,
)

pub number_seen : (ns : List ℤ) (i : ℕ) (n : ℤ) → slice_get ns i ≡ Some n → seen (value.Num n) ≡ num (get_or ns i (pos 0))
number_seen [] i n h = absurd cc
number_seen (m ∷ ns) zero n h = seen-Num n ∙ cc
number_seen (m ∷ ns) (suc i) n h = number_seen ns i n h

pub ruleset values = (number_seen, number_missing)
