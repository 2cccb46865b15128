-- Code costs the same with whatever head, by induction on the code.
use Rattle.std.proofs.Common.{◌≡◌, ℕ, zero, suc, ℤ, List, [], ◌∷◌, ◌++◌, length, Option, Some, None, refl, sym, ap, ◌∙◌, Bool, true, false, if◌then◌else◌}
use Rattle.std.specs.Prelude.{option_map}
use Rattle.std.specs.Ordering.{int_eq}
use Rattle.mint.specs.Types.{Ty}
use Rattle.mint.specs.Typed.{IsWellTyped}
use Rattle.mint.specs.Values.{Val, absent, present, Vals, no_more, val, arm_in}
use Rattle.wire_def.specs.declared.encoding.Back.{Back}
use Rattle.wire_def.specs.declared.head.Head.{Head}
use Rattle.cast_stub.specs.declared.send.SendCode.{SendCode}
use Rattle.cast_stub.specs.Parts.{on_some, at, elements_in}
use Rattle.cast_stub.specs.Puts.{IsHead, filled}
use Rattle.cast_stub.specs.Block.{Block, stop, ensure, ensure_row, align, chunk, row_copy, row_swap, row_wide, each, switch, if_there, call, patch, Cases, no_default, default, case, code_seen}
use Rattle.cast_stub.specs.Steps.{Step, Room, Stored, Patched, Steps, both, align_steps, chunk_steps, row_room, copy_steps, swap_steps, wide_steps, Calls, over, if_present, steps, case_steps}
use Rattle.cast_stub.specs.Subs.{called, sub_at, sent_steps, deepest}
use Rattle.cast_stub.specs.Meaning.{Cost, cost, costs, sum}
use Rattle.cast_stub.proofs.Folding.{costs-append}
use Rattle.stub_codes.specs.Sending.{Sends}
use Rattle.stub_codes.proofs.Following.{some_same}

-- steps that cost the same where both are there
abbrev CostAlike : Steps → Steps → Type 0
CostAlike x y = (a b : List Step) → x ≡ Some a → y ≡ Some b → costs a ≡ costs b

of_self : (x : Steps) → CostAlike x x
of_self x a b e f = ap costs (some_same a b (sym e ∙ f))

of_both : (x y u w : Steps) → CostAlike x y → CostAlike u w → CostAlike (both x u) (both y w)
of_both None y u w f g s t e d = absurd cc
of_both (Some a) y None w f g s t e d = absurd cc
of_both (Some a) None (Some b) w f g s t e d = absurd cc
of_both (Some a) (Some c) (Some b) None f g s t e d = absurd cc
of_both (Some a) (Some c) (Some b) (Some z) f g s t e d =
    let one : a ++ b ≡ s = cc in
    let other : c ++ z ≡ t = cc in
    ap costs (sym one) ∙ costs-append a b ∙ ap (λ (x : Cost). sum x (costs b)) (f a c refl refl)
    ∙ ap (λ (x : Cost). sum (costs c) x) (g b z refl refl) ∙ sym (costs-append c z) ∙ ap costs other

-- an operation that is the same, and what is after it
of_then : (x u w : Steps) → CostAlike u w → CostAlike (both x u) (both x w)
of_then x u w f = of_both x x u w (of_self x) f

of_some : {A : Type 0} (o : Option A) (f g : A → Steps) → ((a : A) → CostAlike (f a) (g a)) → CostAlike (on_some o f) (on_some o g)
of_some None f g h = of_self None
of_some (Some a) f g h = h a

of_over : (f g : Val → Steps) → ((v : Val) → CostAlike (f v) (g v)) → (vs : Vals) → CostAlike (over f vs) (over g vs)
of_over f g h no_more = of_self (Some [])
of_over f g h (val v vs) = of_both (f v) (g v) (over f vs) (over g vs) (h v) (of_over f g h vs)

of_present : (f g : Val → Steps) → ((v : Val) → CostAlike (f v) (g v)) → (v : Val) → CostAlike (if_present f v) (if_present g v)
of_present f g h absent = of_self (Some [])
of_present f g h (present v) = h v
of_present f g h _ = of_self None

of_if : (b : Bool) (x y u w : Steps) → CostAlike x y → CostAlike u w → CostAlike (if b then x else u) (if b then y else w)
of_if true x y u w f g = f
of_if false x y u w f g = g

-- a store costs the same, whichever octets it has
of_stored : (x y : Option (List ℕ)) (n : ℕ) → CostAlike (on_some x (λ o. Some (Stored o n ∷ []))) (on_some y (λ o. Some (Stored o n ∷ [])))
of_stored None y n s t e d = absurd cc
of_stored (Some o) None n s t e d = absurd cc
of_stored (Some o) (Some p) n s t e d =
    let one : Stored o n ∷ [] ≡ s = cc in
    let other : Stored p n ∷ [] ≡ t = cc in
    ap costs (sym one) ∙ ap costs other

module _ (c d : Calls) (h g : Head) (calls : (k : ℕ) (v : Val) → CostAlike (c k v) (d k v)) where
  mutual
    of_steps : (b : Block) (v : Val) → CostAlike (steps c h b v) (steps d g b v)
    of_steps stop v = of_self (Some [])
    of_steps (ensure n r) v = of_then (Some (Room n ∷ [])) (steps c h r v) (steps d g r v) (of_steps r v)
    of_steps (ensure_row p u e r) v = of_then (row_room p u e v) (steps c h r v) (steps d g r v) (of_steps r v)
    of_steps (align a r) v = of_then (align_steps a) (steps c h r v) (steps d g r v) (of_steps r v)
    of_steps (chunk s ps r) v =
        of_both (chunk_steps s ps h v) (chunk_steps s ps g v) (steps c h r v) (steps d g r v)
        (of_stored (filled s ps h v) (filled s ps g v) (length ps)) (of_steps r v)
    of_steps (row_copy p r) v = of_then (copy_steps p v) (steps c h r v) (steps d g r v) (of_steps r v)
    of_steps (row_swap p r) v = of_then (swap_steps p v) (steps c h r v) (steps d g r v) (of_steps r v)
    of_steps (row_wide p o r) v = of_then (wide_steps p o v) (steps c h r v) (steps d g r v) (of_steps r v)
    of_steps (each p b r) v =
        of_both (on_some (on_some (at p v) elements_in) (over (steps c h b))) (on_some (on_some (at p v) elements_in) (over (steps d g b)))
        (steps c h r v) (steps d g r v)
        (of_some (on_some (at p v) elements_in) (over (steps c h b)) (over (steps d g b))
        (of_over (steps c h b) (steps d g b) (of_steps b))) (of_steps r v)
    of_steps (switch p cs r) v =
        of_both (on_some (on_some (at p v) arm_in) (λ a. case_steps c h cs a.0 a.1))
        (on_some (on_some (at p v) arm_in) (λ a. case_steps d g cs a.0 a.1)) (steps c h r v) (steps d g r v)
        (of_some (on_some (at p v) arm_in) (λ a. case_steps c h cs a.0 a.1) (λ a. case_steps d g cs a.0 a.1)
        (λ a. of_cases cs a.0 a.1)) (of_steps r v)
    of_steps (if_there p b r) v =
        of_both (on_some (at p v) (if_present (steps c h b))) (on_some (at p v) (if_present (steps d g b))) (steps c h r v) (steps d g r v)
        (of_some (at p v) (if_present (steps c h b)) (if_present (steps d g b)) (of_present (steps c h b) (steps d g b) (of_steps b)))
        (of_steps r v)
    of_steps (call k p r) v =
        of_both (on_some (at p v) (c k)) (on_some (at p v) (d k)) (steps c h r v) (steps d g r v)
        (of_some (at p v) (c k) (d k) (calls k)) (of_steps r v)
    of_steps (patch a s o r) v = of_then (Some (Patched a s o ∷ [])) (steps c h r v) (steps d g r v) (of_steps r v)

    of_cases : (cs : Cases) (n : ℤ) (v : Val) → CostAlike (case_steps c h cs n v) (case_steps d g cs n v)
    of_cases no_default n v = of_self None
    of_cases (default b) n v = of_steps b v
    of_cases (case m b cs) n v =
        of_if (int_eq n m) (steps c h b v) (steps d g b v) (case_steps c h cs n v) (case_steps d g cs n v) (of_steps b v) (of_cases cs n v)

of_called : (subs : ℕ → Option Block) (h g : Head) (n k : ℕ) (v : Val) → CostAlike (called subs h n k v) (called subs g n k v)
of_called subs h g zero k v = of_self None
of_called subs h g (suc n) k v =
    of_some (subs k) (λ b. steps (called subs h n) h b v) (λ b. steps (called subs g n) g b v)
    (λ b. of_steps (called subs h n) (called subs g n) h g (of_called subs h g n) b v)

of_costs : (x y : Steps) (n m : Cost) → CostAlike x y → option_map costs x ≡ Some n → option_map costs y ≡ Some m
    → option_map costs x ≡ option_map costs y
of_costs None y n m f e d = absurd cc
of_costs (Some a) None n m f e d = absurd cc
of_costs (Some a) (Some b) n m f e d = ap (λ (c : Cost). Some c) (f a b refl refl)

-- code that sends messages costs the same with each of two heads
pub same_cost : (k : Back) (o : Head → List ℕ) (t : Ty) (code : SendCode) (h g : Head) (v : Val) → Sends k o t code → IsHead h → IsHead g
    → IsWellTyped t v → cost code h v ≡ cost code g v
same_cost k o t code h g v sends one other typed =
    let subs = sub_at code.subs in
    let calls = of_called subs h g deepest in
    let (n, first, few) = sends.costs h v one typed in
    let (m, second, least) = sends.costs g v other typed in
    of_costs (sent_steps code h v) (sent_steps code g v) n m
    (of_steps (called subs h deepest) (called subs g deepest) h g calls (code_seen code.ops) v) first second
