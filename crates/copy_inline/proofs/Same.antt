-- Code whose calls are replaced makes the same steps, by induction on the depth of calls and the code.
use Rattle.std.proofs.Common.{◌≡◌, ℕ, zero, suc, ℤ, List, [], ◌∷◌, Option, Some, None, refl, sym, subst, Bool, true, false, if◌then◌else◌}
use Rattle.std.specs.Ordering.{int_eq}
use Rattle.mint.specs.Values.{Val, Vals, no_more, val, absent, present, arm_in}
use Rattle.wire_def.specs.declared.head.Head.{Head}
use Rattle.cast_stub.specs.Parts.{on_some, at, elements_in}
use Rattle.cast_stub.specs.Block.{Block, stop, ensure, ensure_row, align, chunk, row_copy, row_swap, row_wide, each, switch, if_there, call, patch, Cases, no_default, default, case}
use Rattle.cast_stub.specs.Append.{rebase}
use Rattle.cast_stub.specs.Steps.{Step, Room, Patched, Steps, both, over, if_present, Calls, steps, case_steps, align_steps, chunk_steps, row_room, copy_steps, swap_steps, wide_steps}
use Rattle.cast_stub.specs.Subs.{called}
use Rattle.cast_stub.proofs.Appending.{steps-append}
use Rattle.cast_stub.proofs.Rebasing.{steps-rebase}
use Rattle.copy_inline.specs.Spliced.{spliced, cases_spliced, spliced_or_stop, inlined}

-- where the first is there the second is the same
abbrev Below : Steps → Steps → Type 0
Below x y = (ss : List Step) → x ≡ Some ss → y ≡ Some ss

none_below : (y : Steps) → Below None y
none_below y ss e = absurd cc

same_below : (x : Steps) → Below x x
same_below x ss e = e

below_both : (x x' y y' : Steps) → Below x x' → Below y y' → Below (both x y) (both x' y')
below_both None x' y y' h k ss e = absurd cc
below_both (Some a) x' None y' h k ss e = absurd cc
below_both (Some a) x' (Some b) y' h k ss e = rw (h a refl, k b refl) e

below_after : (x y y' : Steps) → Below y y' → Below (both x y) (both x y')
below_after x y y' k = below_both x x y y' (same_below x) k

below_on_some : {A : Type 0} (o : Option A) (f g : A → Steps) → ((a : A) → Below (f a) (g a)) → Below (on_some o f) (on_some o g)
below_on_some None f g h = none_below (on_some None g)
below_on_some (Some a) f g h = h a

below_over : (f g : Val → Steps) → ((w : Val) → Below (f w) (g w)) → (vs : Vals) → Below (over f vs) (over g vs)
below_over f g h no_more = same_below (Some [])
below_over f g h (val v vs) = below_both (f v) (g v) (over f vs) (over g vs) (h v) (below_over f g h vs)

below_present : (f g : Val → Steps) → ((w : Val) → Below (f w) (g w)) → (v : Val) → Below (if_present f v) (if_present g v)
below_present f g h absent = same_below (Some [])
below_present f g h (present v) = h v
below_present f g h _ = none_below None

below_if : (b : Bool) (x x' y y' : Steps) → Below x x' → Below y y' → Below (if b then x else y) (if b then x' else y')
below_if true x x' y y' h k = h
below_if false x x' y y' h k = k

-- calls c, and code without calls, whatever calls would do there
module _ (h : Head) (c d : Calls) (code : ℕ → Block) (agree : (k : ℕ) (w : Val) → Below (c k w) (steps d h (code k) w)) where
  call_below : (o : Option Val) (k : ℕ) (p : List ℕ) (v : Val) → at p v ≡ o → Below (on_some o (c k)) (steps d h (rebase p (code k)) v)
  call_below None k p v e = none_below (steps d h (rebase p (code k)) v)
  call_below (Some w) k p v e = subst (Below (c k w)) (sym (steps-rebase d h p (code k) v w e)) (agree k w)

  mutual
    spliced_same : (b : Block) (v : Val) → Below (steps c h b v) (steps d h (spliced code b) v)
    spliced_same stop v = same_below (Some [])
    spliced_same (ensure n r) v = below_after (Some (Room n ∷ [])) (steps c h r v) (steps d h (spliced code r) v) (spliced_same r v)
    spliced_same (ensure_row p u x r) v = below_after (row_room p u x v) (steps c h r v) (steps d h (spliced code r) v) (spliced_same r v)
    spliced_same (align a r) v = below_after (align_steps a) (steps c h r v) (steps d h (spliced code r) v) (spliced_same r v)
    spliced_same (chunk s ps r) v = below_after (chunk_steps s ps h v) (steps c h r v) (steps d h (spliced code r) v) (spliced_same r v)
    spliced_same (row_copy p r) v = below_after (copy_steps p v) (steps c h r v) (steps d h (spliced code r) v) (spliced_same r v)
    spliced_same (row_swap p r) v = below_after (swap_steps p v) (steps c h r v) (steps d h (spliced code r) v) (spliced_same r v)
    spliced_same (row_wide p o r) v = below_after (wide_steps p o v) (steps c h r v) (steps d h (spliced code r) v) (spliced_same r v)
    spliced_same (each p b r) v =
        below_both (on_some (on_some (at p v) elements_in) (over (steps c h b)))
        (on_some (on_some (at p v) elements_in) (over (steps d h (spliced code b)))) (steps c h r v) (steps d h (spliced code r) v)
        (below_on_some (on_some (at p v) elements_in) (over (steps c h b)) (over (steps d h (spliced code b)))
        (below_over (steps c h b) (steps d h (spliced code b)) (λ w. spliced_same b w)))
        (spliced_same r v)
    spliced_same (switch p cs r) v =
        below_both (on_some (on_some (at p v) arm_in) (λ a. case_steps c h cs a.0 a.1))
        (on_some (on_some (at p v) arm_in) (λ a. case_steps d h (cases_spliced code cs) a.0 a.1)) (steps c h r v)
        (steps d h (spliced code r) v)
        (below_on_some (on_some (at p v) arm_in) (λ a. case_steps c h cs a.0 a.1) (λ a. case_steps d h (cases_spliced code cs) a.0 a.1)
        (λ a. case_same cs a.0 a.1))
        (spliced_same r v)
    spliced_same (if_there p b r) v =
        below_both (on_some (at p v) (if_present (steps c h b))) (on_some (at p v) (if_present (steps d h (spliced code b))))
        (steps c h r v) (steps d h (spliced code r) v)
        (below_on_some (at p v) (if_present (steps c h b)) (if_present (steps d h (spliced code b)))
        (below_present (steps c h b) (steps d h (spliced code b)) (λ w. spliced_same b w)))
        (spliced_same r v)
    spliced_same (call k p r) v =
        subst (Below (both (on_some (at p v) (c k)) (steps c h r v))) (sym (steps-append d h (rebase p (code k)) (spliced code r) v))
        (below_both (on_some (at p v) (c k)) (steps d h (rebase p (code k)) v) (steps c h r v) (steps d h (spliced code r) v)
        (call_below (at p v) k p v refl) (spliced_same r v))
    spliced_same (patch a s o r) v =
        below_after (Some (Patched a s o ∷ [])) (steps c h r v) (steps d h (spliced code r) v) (spliced_same r v)

    case_same : (cs : Cases) (n : ℤ) (w : Val) → Below (case_steps c h cs n w) (case_steps d h (cases_spliced code cs) n w)
    case_same no_default n w = none_below None
    case_same (default b) n w = spliced_same b w
    case_same (case m b cs) n w = below_if (int_eq n m) (steps c h b w) (steps d h (spliced code b) w) (case_steps c h cs n w)
        (case_steps d h (cases_spliced code cs) n w) (spliced_same b w) (case_same cs n w)

sub_below : (h : Head) (c d : Calls) (code : ℕ → Block) (o : Option Block) (w : Val)
    → ((k : ℕ) (w : Val) → Below (c k w) (steps d h (code k) w))
    → Below (on_some o (λ b. steps c h b w)) (steps d h (spliced_or_stop code o) w)
sub_below h c d code None w agree = none_below (steps d h stop w)
sub_below h c d code (Some b) w agree = spliced_same h c d code agree b w

-- a code that is called, and the same with its calls replaced
pub agrees : (subs : ℕ → Option Block) (h : Head) (d : Calls) (n : ℕ) (k : ℕ) (w : Val)
    → Below (called subs h n k w) (steps d h (inlined subs n k) w)
agrees subs h d zero k w = none_below (steps d h stop w)
agrees subs h d (suc n) k w = sub_below h (called subs h n) d (inlined subs n) (subs k) w (agrees subs h d n)
