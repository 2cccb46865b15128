-- Steps after steps, run one after the other, by induction on the first steps.
use Rattle.std.proofs.Common.{◌≡◌, List, [], ◌∷◌, ◌++◌, Option, Some, None, refl, sym, ap, subst, ◌∙◌}
use Rattle.mint.specs.Values.{Val}
use Rattle.wire_def.specs.declared.head.Head.{Head}
use Rattle.cast_stub.specs.declared.send.SendOp.{SendOp}
use Rattle.cast_stub.specs.Parts.{on_some, IsThere}
use Rattle.cast_stub.specs.Block.{Block, stop, op_seen}
use Rattle.cast_stub.specs.Steps.{Step, Steps, both, Calls, steps}
use Rattle.cast_stub.proofs.Appending.{steps-append, op-append}
use Rattle.stub_machine.specs.Run.{State, act, ran, ended, Runs, Ends}

ran_next : (t : Option State) (a b : List Step) → ((u : State) → ran (a ++ b) u ≡ on_some (ran a u) (ran b))
    → on_some t (ran (a ++ b)) ≡ on_some (on_some t (ran a)) (ran b)
ran_next None a b h = refl
ran_next (Some t) a b h = h t

pub ran-append : (a b : List Step) (s : State) → ran (a ++ b) s ≡ on_some (ran a s) (ran b)
ran-append [] b s = refl
ran-append (x ∷ a) b s = ran_next (act x s) a b (ran-append a b)

none_then : (t : Option State) → on_some {B = State} t (λ u. None) ≡ None
none_then None = refl
none_then (Some t) = refl

-- one after the other
pub ended-both : (x y : Steps) (s : State) → ended (both x y) s ≡ on_some (ended x s) (ended y)
ended-both None y s = refl
ended-both (Some a) None s = sym (none_then (ran a s))
ended-both (Some a) (Some b) s = ran-append a b s

-- steps that end somewhere, with others after them
pub first-ends : (x y : Steps) (s t : State) → Ends x s t → ended (both x y) s ≡ ended y t
first-ends x y s t e = ended-both x y s ∙ ap (λ z. on_some z (ended y)) e

there_then : (z : Option State) (f : State → Option State) → IsThere (on_some z f) → IsThere z
there_then None f h = h
there_then (Some t) f h = tt

pub first-runs : (x y : Steps) (s : State) → Runs (both x y) s → Runs x s
first-runs x y s h = there_then (ended x s) (ended y) (subst IsThere (ended-both x y s) h)

-- an operation of a code that runs, by itself
pub op-runs : (c : Calls) (h : Head) (o : SendOp) (r : Block) (v : Val) (s : State) → Runs (steps c h (op_seen o r) v) s
    → Runs (steps c h (op_seen o stop) v) s
op-runs c h o r v s runs =
    first-runs (steps c h (op_seen o stop) v) (steps c h r v) s
    (subst (λ (b : Steps). Runs b s) (ap (λ (b : Block). steps c h b v) (sym (op-append o stop r)) ∙ steps-append c h (op_seen o stop) r v)
    runs)
