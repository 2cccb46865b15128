-- Plain code ensures nothing, by induction on the block.
use Rattle.std.proofs.Common.{◌≡◌, ℤ, Bool, true, false, if◌then◌else◌, List, [], ◌∷◌, ◌++◌, length, Option, None, Some, refl, subst}
use Rattle.std.specs.Ordering.{int_eq}
use Rattle.mint.specs.Row.{image_of}
use Rattle.mint.specs.Values.{Val, absent, present, Vals, no_more, val, row_in, arm_in}
use Rattle.wire_def.specs.declared.head.Head.{Head}
use Rattle.cast_stub.specs.Parts.{on_some, at, elements_in}
use Rattle.cast_stub.specs.Puts.{filled}
use Rattle.cast_stub.specs.Block.{Block, stop, ensure, ensure_row, align, chunk, row_copy, row_swap, row_wide, each, switch, if_there, call, patch, Cases, no_default, default, case}
use Rattle.cast_stub.specs.Steps.{Step, Room, Pad, Stored, Widened, Copied, Patched, Steps, both, over, if_present, is_width, Calls, steps, case_steps, align_steps, chunk_steps, swapped, wide, copy_steps, swap_steps, wide_steps}
use Rattle.stub_cover.specs.Covers.{is_plain, are_plain}
use Rattle.stub_cover.proofs.Leading.{AreQuiet}
use Rattle.stub_cover.proofs.Rooms.{some_same}
use Rattle.std.proofs.lemmas.Bool.{and_parts}

-- the steps, if they are defined, ensure nothing
abbrev pub IsQuiet : Steps → Type 0
IsQuiet x = (ss : List Step) → x ≡ Some ss → AreQuiet ss

quiet_append : (x y : List Step) → AreQuiet x → AreQuiet y → AreQuiet (x ++ y)
quiet_append [] y h k = k
quiet_append (Room n ∷ x) y h k = absurd h
quiet_append (Pad g ∷ x) y h k = quiet_append x y h k
quiet_append (Stored os n ∷ x) y h k = quiet_append x y h k
quiet_append (Widened os n ∷ x) y h k = quiet_append x y h k
quiet_append (Copied os ∷ x) y h k = quiet_append x y h k
quiet_append (Patched at sub order ∷ x) y h k = quiet_append x y h k

quiet_some : (s : List Step) → AreQuiet s → IsQuiet (Some s)
quiet_some s h ss e = subst AreQuiet (some_same s ss e) h

quiet_both : (x y : Steps) → IsQuiet x → IsQuiet y → IsQuiet (both x y)
quiet_both None y f g ss e = absurd cc
quiet_both (Some s) None f g ss e = absurd cc
quiet_both (Some s) (Some t) f g ss e = quiet_some (s ++ t) (quiet_append s t (f s refl) (g t refl)) ss e

quiet_on_some : {X : Type 0} (o : Option X) (f : X → Steps) → ((x : X) → IsQuiet (f x)) → IsQuiet (on_some o f)
quiet_on_some None f g ss e = absurd cc
quiet_on_some (Some x) f g ss e = g x ss e

quiet_over : (f : Val → Steps) → ((w : Val) → IsQuiet (f w)) → (vs : Vals) → IsQuiet (over f vs)
quiet_over f g no_more = quiet_some [] tt
quiet_over f g (val v vs) = quiet_both (f v) (over f vs) (g v) (quiet_over f g vs)

quiet_present : (f : Val → Steps) → ((w : Val) → IsQuiet (f w)) → (v : Val) → IsQuiet (if_present f v)
quiet_present f g absent = quiet_some [] tt
quiet_present f g (present v) = g v
quiet_present f g _ = λ ss e. absurd cc

quiet_if : (t : Bool) (x y : Steps) → IsQuiet x → IsQuiet y → IsQuiet (if t then x else y)
quiet_if true x y f g = f
quiet_if false x y f g = g

quiet_none : IsQuiet None
quiet_none ss e = absurd cc

module _ (c : Calls) (h : Head) where
  mutual
    pub quiet : (b : Block) (v : Val) → is_plain b ≡ true → IsQuiet (steps c h b v)
    quiet stop v e = quiet_some [] tt
    quiet (ensure n r) v e = absurd cc
    quiet (ensure_row p u x r) v e = absurd cc
    quiet (call k p r) v e = absurd cc
    quiet (align a r) v e =
        quiet_both (align_steps a) (steps c h r v) (quiet_if (is_width a) (Some (Pad a ∷ [])) None (quiet_some (Pad a ∷ []) tt) quiet_none)
        (quiet r v e)
    quiet (chunk s ps r) v e =
        quiet_both (chunk_steps s ps h v) (steps c h r v)
        (quiet_on_some (filled s ps h v) (λ o. Some (Stored o (length ps) ∷ [])) (λ o. quiet_some (Stored o (length ps) ∷ []) tt))
        (quiet r v e)
    quiet (row_copy p r) v e =
        quiet_both (copy_steps p v) (steps c h r v)
        (quiet_on_some (on_some (at p v) row_in) (λ x. Some (Copied (image_of x.0 x.1) ∷ []))
        (λ x. quiet_some (Copied (image_of x.0 x.1) ∷ []) tt)) (quiet r v e)
    quiet (row_swap p r) v e =
        quiet_both (swap_steps p v) (steps c h r v)
        (quiet_on_some (on_some (at p v) row_in) (λ x. Some (Copied (swapped x.0 x.1) ∷ []))
        (λ x. quiet_some (Copied (swapped x.0 x.1) ∷ []) tt)) (quiet r v e)
    quiet (row_wide p o r) v e =
        quiet_both (wide_steps p o v) (steps c h r v)
        (quiet_on_some (on_some (at p v) row_in) (λ x. on_some (wide o x.1) (λ os. Some (Widened os (length x.1) ∷ [])))
        (λ x. quiet_on_some (wide o x.1) (λ os. Some (Widened os (length x.1) ∷ []))
        (λ os. quiet_some (Widened os (length x.1) ∷ []) tt))) (quiet r v e)
    quiet (each p b r) v e =
        let t = and_parts (is_plain b) (is_plain r) e in
        quiet_both (on_some (on_some (at p v) elements_in) (over (steps c h b))) (steps c h r v)
        (quiet_on_some (on_some (at p v) elements_in) (over (steps c h b)) (quiet_over (steps c h b) (λ w. quiet b w t.0))) (quiet r v t.1)
    quiet (switch p cs r) v e =
        let t = and_parts (are_plain cs) (is_plain r) e in
        quiet_both (on_some (on_some (at p v) arm_in) (λ a. case_steps c h cs a.0 a.1)) (steps c h r v)
        (quiet_on_some (on_some (at p v) arm_in) (λ a. case_steps c h cs a.0 a.1) (λ a. quiet_cases cs a.0 a.1 t.0)) (quiet r v t.1)
    quiet (if_there p b r) v e =
        let t = and_parts (is_plain b) (is_plain r) e in
        quiet_both (on_some (at p v) (if_present (steps c h b))) (steps c h r v)
        (quiet_on_some (at p v) (if_present (steps c h b)) (quiet_present (steps c h b) (λ w. quiet b w t.0))) (quiet r v t.1)
    quiet (patch x s o r) v e =
        quiet_both (Some (Patched x s o ∷ [])) (steps c h r v) (quiet_some (Patched x s o ∷ []) tt) (quiet r v e)

    pub quiet_cases : (cs : Cases) (n : ℤ) (w : Val) → are_plain cs ≡ true → IsQuiet (case_steps c h cs n w)
    quiet_cases no_default n w e = quiet_none
    quiet_cases (default b) n w e = quiet b w e
    quiet_cases (case m b cs) n w e =
        let t = and_parts (is_plain b) (are_plain cs) e in
        quiet_if (int_eq n m) (steps c h b w) (case_steps c h cs n w) (quiet b w t.0) (quiet_cases cs n w t.1)
