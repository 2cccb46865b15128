-- The body of a number, by its place among the cases.
use Rattle.std.proofs.Common.{◌≡◌, ℕ, zero, ℤ, suc, ◌<◌, List, [], ◌∷◌, length, get_or, Option, Some, None, IfSome, slice_get, refl, sym, ap, ◌∙◌, arith}
use Rattle.std.proofs.lemmas.Option.{get_or_from_slice_get}
use Rattle.mint.specs.Keyed.{place_of}
use Rattle.mint.proofs.Placing.{Asks, placed, missed}
use Rattle.mint.specs.Values.{Val, arm_in}
use Rattle.cast_stub.specs.declared.send.SendOp.{SendOp}
use Rattle.wire_def.specs.declared.head.Head.{Head}
use Rattle.cast_stub.specs.Block.{cases_seen}
use Rattle.cast_stub.specs.Steps.{Calls, case_steps, code_steps, switch_steps}
use Rattle.cast_stub.specs.Parts.{on_some, at}
use Rattle.std.specs.Prelude.{Result, Ok, Err, OnOk}
use Rattle.stub_machine.specs.Picking.{PickedAt}

asks_body : (c : Calls) (h : Head) (o : Option (List SendOp)) (n : ℤ) (w : Val)
    → Asks n (λ (cases : List (ℤ × List SendOp)). case_steps c h (cases_seen cases o) n w) (λ d. code_steps c h d.1 w)
    (case_steps c h (cases_seen [] o) n w)
asks_body c h o n w = record { none = refl; step = λ d cases. refl }

-- the body at the place of the number
placed_at : (cases : List (ℤ × List SendOp)) (n : ℤ) (i : ℕ) → Some i ≡ place_of n cases → i < length cases → PickedAt cases n (Some i)
placed_at cases n i e within = (
  within,
  λ (c : Calls) (h : Head) (o : Option (List SendOp)) (w : Val) (d : ℤ × List SendOp) is.
      placed n (λ (l : List (ℤ × List SendOp)). case_steps c h (cases_seen l o) n w) (λ d. code_steps c h d.1 w)
      (case_steps c h (cases_seen [] o) n w) (asks_body c h o n w) cases i d e
      ∙ ap (λ (y : ℤ × List SendOp). code_steps c h y.1 w) (get_or_from_slice_get cases i d d is),
)

pub picked : (cases : List (ℤ × List SendOp)) (n : ℤ) (r : Option ℕ) → r ≡ place_of n cases → IfSome r (λ i. i < length cases)
    → PickedAt cases n r
picked cases n None e within =
    λ (c : Calls) (h : Head) (o : Option (List SendOp)) (w : Val).
    missed n (λ (l : List (ℤ × List SendOp)). case_steps c h (cases_seen l o) n w) (λ d. code_steps c h d.1 w)
    (case_steps c h (cases_seen [] o) n w) (asks_body c h o n w) cases e
picked cases n (Some i) e within = placed_at cases n i e within

-- ---- a switch is the body that is picked

pub picked_steps : (c : Calls) (h : Head) (v : Val) (path : List ℕ) (cases : List (ℤ × List SendOp))
    (other : Option (List SendOp)) (n : ℤ) (w : Val) (i : ℕ) (d : ℤ × List SendOp)
    → on_some (at path v) arm_in ≡ Some (n, w) → PickedAt cases n (Some i) → slice_get cases i ≡ Some d
    → switch_steps c h path cases other v ≡ code_steps c h d.1 w
picked_steps c h v path cases other n w i d e picked is =
    ap (λ (o : Option (ℤ × Val)). on_some o (λ a. case_steps c h (cases_seen cases other) a.0 a.1)) e ∙ picked.1 c h other w d is

pub default_steps : (c : Calls) (h : Head) (v : Val) (path : List ℕ) (cases : List (ℤ × List SendOp))
    (other : Option (List SendOp)) (n : ℤ) (w : Val) (body : List SendOp)
    → on_some (at path v) arm_in ≡ Some (n, w) → PickedAt cases n None → other ≡ Some body
    → switch_steps c h path cases other v ≡ code_steps c h body w
default_steps c h v path cases other n w body e picked is =
    ap (λ (o : Option (ℤ × Val)). on_some o (λ a. case_steps c h (cases_seen cases other) a.0 a.1)) e ∙ picked c h other w
    ∙ ap (λ (o : Option (List SendOp)). case_steps c h (cases_seen [] o) n w) is

pub nothing_steps : (c : Calls) (h : Head) (v : Val) (path : List ℕ) (cases : List (ℤ × List SendOp))
    (other : Option (List SendOp)) (n : ℤ) (w : Val)
    → on_some (at path v) arm_in ≡ Some (n, w) → PickedAt cases n None → other ≡ None
    → switch_steps c h path cases other v ≡ None
nothing_steps c h v path cases other n w e picked is =
    ap (λ (o : Option (ℤ × Val)). on_some o (λ a. case_steps c h (cases_seen cases other) a.0 a.1)) e ∙ picked c h other w
    ∙ ap (λ (o : Option (List SendOp)). case_steps c h (cases_seen [] o) n w) is

got : (cases : List (ℤ × List SendOp)) (i : ℕ) (d : ℤ × List SendOp) → i < length cases → slice_get cases i ≡ Some (get_or cases i d)
got [] i d h = absurd (omega arith)
got (x ∷ cases) zero d h = refl
got (x ∷ cases) (suc i) d h = got cases i d (omega arith)

pub picked_body : (c : Calls) (h : Head) (v : Val) (path : List ℕ) (cases l : List (ℤ × List SendOp))
    (other : Option (List SendOp)) (n : ℤ) (w : Val) (i : ℕ) (d : ℤ × List SendOp)
    → Some (n, w) ≡ on_some (at path v) arm_in → PickedAt cases n (Some i) → l ≡ cases
    → switch_steps c h path cases other v ≡ code_steps c h (get_or l i d).1 w
picked_body c h v path cases l other n w i d e picked same =
    picked_steps c h v path cases other n w i (get_or cases i d) (sym e) picked (got cases i d picked.0)
    ∙ ap (λ (x : List (ℤ × List SendOp)). code_steps c h (get_or x i d).1 w) (sym same)

pub ok_map : {A E : Type 0} (r : Result A E) (P Q : Type 0) → (P → Q) → OnOk r P → OnOk r Q
ok_map (Ok x) P Q f h = f h
ok_map (Err x) P Q f h = h
