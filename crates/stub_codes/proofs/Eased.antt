-- Code with its ensures left out stores as much, and is allowed seven moves less for each check, by induction on the code.
use Rattle.std.proofs.Common.{◌≡◌, ℕ, suc, ◌+◌, ◌*◌, ◌≤◌, ℤ, List, [], ◌∷◌, ◌++◌, Option, None, Some, Bool, true, false, if◌then◌else◌, refl, ap, subst, arith}
use Rattle.std.specs.Ordering.{int_eq}
use Rattle.mint.specs.Values.{Val, Vals, no_more, val, absent, present, arm_in}
use Rattle.wire_def.specs.declared.head.Head.{Head}
use Rattle.cast_stub.specs.Block.{Block, stop, ensure, ensure_row, align, chunk, row_copy, row_swap, row_wide, each, switch, if_there, call, patch, Cases, no_default, default, case}
use Rattle.cast_stub.specs.Kept.{unensured, cases_unensured}
use Rattle.cast_stub.specs.Meaning.{costs}
use Rattle.cast_stub.specs.Met.{met, Begins, of_some, of_each, of_present, first_run, moves_after, case_moves, moves_in}
use Rattle.cast_stub.specs.Parts.{on_some, at, elements_in, length_in}
use Rattle.cast_stub.specs.Steps.{Step, Room, Patched, Steps, both, over, if_present, Calls, steps, case_steps, align_steps, chunk_steps, row_room, copy_steps, swap_steps, wide_steps}
use Rattle.cast_stub.proofs.Folding.{costs-append}
use Rattle.chunker.proofs.Keeping.{met-append}
use Rattle.chunker.proofs.Moves.{at_most}

-- steps in the place of some: as many stores are met, and for so many moves there are so many and seven for each check
pub record Eased (y : Steps) (n m : ℕ) (ss : List Step) : Type 0 where
  pub bare : List Step
  pub is : y ≡ Some bare
  pub stores : met ss ≡ met bare
  pub moves : n ≤ m + 7 * (costs ss).checks

-- the same of steps wherever they are there
abbrev pub Eases : Steps → Steps → ℕ → ℕ → Type 0
Eases x y n m = (ss : List Step) → x ≡ Some ss → Eased y n m ss

eases_self : (x : Steps) (n : ℕ) → Eases x x n n
eases_self x n ss e = record { bare = ss; is = e; stores = refl; moves = omega arith }

eases_less : (x y : Steps) (n m i j : ℕ) → i ≤ n → m ≤ j → Eases x y n m → Eases x y i j
eases_less x y n m i j f g h ss e =
    let k = h ss e in
    let most = k.moves in
    record { bare = k.bare; is = k.is; stores = k.stores; moves = omega (arith, f, g, most) }

eases_add : (x y : Steps) (n m i j : ℕ) → i ≤ j → Eases x y n m → Eases x y (i + n) (j + m)
eases_add x y n m i j f h ss e =
    let k = h ss e in
    let most = k.moves in
    record { bare = k.bare; is = k.is; stores = k.stores; moves = omega (arith, f, most) }

eases_suc : (x y : Steps) (n m : ℕ) → Eases x y n m → Eases x y (suc n) (suc m)
eases_suc x y n m h ss e =
    let k = h ss e in
    let most = k.moves in
    record { bare = k.bare; is = k.is; stores = k.stores; moves = omega (arith, most) }

eased_at : (y : Steps) (n m : ℕ) (s ss : List Step) → s ≡ ss → Eased y n m s → Eased y n m ss
eased_at y n m s ss e h = subst (Eased y n m) e h

eases_both : (x x' y y' : Steps) (n m i j : ℕ) → Eases x x' n m → Eases y y' i j → Eases (both x y) (both x' y') (n + i) (m + j)
eases_both None x' y y' n m i j f g ss e = absurd cc
eases_both (Some a) x' None y' n m i j f g ss e = absurd cc
eases_both (Some a) x' (Some b) y' n m i j f g ss e =
    let same : a ++ b ≡ ss = cc in
    let k = f a refl in
    let l = g b refl in
    let looks : (costs (a ++ b)).checks ≡ (costs a).checks + (costs b).checks = ap (λ c. c.checks) (costs-append a b) in
    let first = k.moves in
    let rest = l.moves in
    eased_at (both x' y') (n + i) (m + j) (a ++ b) ss same (record {
      bare = k.bare ++ l.bare;
      is = rw (k.is, l.is) refl;
      stores = omega (arith, met-append a b, met-append k.bare l.bare, k.stores, l.stores);
      moves = omega (arith, looks, first, rest);
    })

-- an operation that stays, with what it allows
eases_then : (x y y' : Steps) (i j : ℕ) → Eases y y' i j → Eases (both x y) (both x y') i j
eases_then x y y' i j g =
    eases_less (both x y) (both x y') (0 + i) (0 + j) i j (omega arith) (omega arith) (eases_both x x y y' 0 0 i j (eases_self x 0) g)

-- a check
eases_room : (k : ℕ) (y y' : Steps) (i j : ℕ) → Eases y y' i j → Eases (both (Some (Room k ∷ [])) y) y' (7 + i) j
eases_room k None y' i j g ss e = absurd cc
eases_room k (Some b) y' i j g ss e =
    let same : Room k ∷ b ≡ ss = cc in
    let l = g b refl in
    let rest = l.moves in
    eased_at y' (7 + i) j (Room k ∷ b) ss same (record {
      bare = l.bare;
      is = l.is;
      stores = l.stores;
      moves = omega (arith, rest);
    })

eases_row_room : (z : Option ℕ) (u x : ℕ) (y y' : Steps) (i j : ℕ) → Eases y y' i j
    → Eases (both (on_some z (λ n. Some (Room (n * u + x) ∷ []))) y) y' (7 + i) j
eases_row_room None u x y y' i j g = λ ss e. absurd cc
eases_row_room (Some n) u x y y' i j g = eases_room (n * u + x) y y' i j g

eases_over : (f f' : Val → Steps) (g g' : Val → ℕ) → ((w : Val) → Eases (f w) (f' w) (g w) (g' w)) → (vs : Vals)
    → Eases (over f vs) (over f' vs) (of_each g vs) (of_each g' vs)
eases_over f f' g g' h no_more = eases_self (Some []) 0
eases_over f f' g g' h (val v vs) =
    eases_both (f v) (f' v) (over f vs) (over f' vs) (g v) (g' v) (of_each g vs) (of_each g' vs) (h v) (eases_over f f' g g' h vs)

eases_some : {A : Type 0} (z : Option A) (f f' : A → Steps) (g g' : A → ℕ) → ((a : A) → Eases (f a) (f' a) (g a) (g' a))
    → Eases (on_some z f) (on_some z f') (of_some z g) (of_some z g')
eases_some None f f' g g' h = λ ss e. absurd cc
eases_some (Some a) f f' g g' h = h a

eases_present : (f f' : Val → Steps) (g g' : Val → ℕ) → ((w : Val) → Eases (f w) (f' w) (g w) (g' w)) → (v : Val)
    → Eases (if_present f v) (if_present f' v) (of_present g v) (of_present g' v)
eases_present f f' g g' h absent = eases_self (Some []) 0
eases_present f f' g g' h (present v) = h v
eases_present f f' g g' h _ = λ ss e. absurd cc

eases_if : (t : Bool) (x x' y y' : Steps) (n m i j : ℕ) → Eases x x' n m → Eases y y' i j
    → Eases (if t then x else y) (if t then x' else y') (if t then n else i) (if t then m else j)
eases_if true x x' y y' n m i j f g = f
eases_if false x x' y y' n m i j f g = g

first_bare : (b : Block) → first_run 7 b ≤ first_run 7 (unensured b)
first_bare (align a r) = omega arith
first_bare (chunk s ps r) = omega arith
first_bare _ = omega arith

module _ (c : Calls) (h : Head) (e : Begins) where
  -- with the run that a block begins with
  eases_in : (b : Block) (v : Val)
      → Eases (steps c h b v) (steps c h (unensured b) v) (moves_after 7 e b v) (moves_after 7 e (unensured b) v)
      → Eases (steps c h b v) (steps c h (unensured b) v) (moves_in 7 e b v) (moves_in 7 e (unensured b) v)
  eases_in b v f =
      eases_add (steps c h b v) (steps c h (unensured b) v) (moves_after 7 e b v) (moves_after 7 e (unensured b) v) (first_run 7 b)
      (first_run 7 (unensured b)) (first_bare b) f

  -- behind a check
  eases_behind : (x : Steps) (r : Block) (v : Val) → Eases x (steps c h (unensured r) v) (7 + moves_after 7 e r v)
      (moves_after 7 e (unensured r) v) → Eases x (steps c h (unensured r) v) (moves_in 7 e r v) (moves_after 7 e (unensured r) v)
  eases_behind x r v f =
      let most = at_most r in
      eases_less x (steps c h (unensured r) v) (7 + moves_after 7 e r v) (moves_after 7 e (unensured r) v) (moves_in 7 e r v)
      (moves_after 7 e (unensured r) v) (omega (arith, most)) (omega arith) f

  mutual
    eases_after : (b : Block) (v : Val)
        → Eases (steps c h b v) (steps c h (unensured b) v) (moves_after 7 e b v) (moves_after 7 e (unensured b) v)
    eases_after stop v = eases_self (Some []) 0
    eases_after (ensure n r) v =
        eases_behind (both (Some (Room n ∷ [])) (steps c h r v)) r v (eases_room n (steps c h r v) (steps c h (unensured r) v)
        (moves_after 7 e r v) (moves_after 7 e (unensured r) v) (eases_after r v))
    eases_after (ensure_row p u x r) v =
        eases_behind (both (row_room p u x v) (steps c h r v)) r v (eases_row_room (on_some (at p v) length_in) u x (steps c h r v)
        (steps c h (unensured r) v) (moves_after 7 e r v) (moves_after 7 e (unensured r) v) (eases_after r v))
    eases_after (align a r) v =
        eases_then (align_steps a) (steps c h r v) (steps c h (unensured r) v) (moves_after 7 e r v) (moves_after 7 e (unensured r) v)
        (eases_after r v)
    eases_after (chunk s ps r) v =
        eases_then (chunk_steps s ps h v) (steps c h r v) (steps c h (unensured r) v) (moves_after 7 e r v)
        (moves_after 7 e (unensured r) v) (eases_after r v)
    eases_after (row_copy p r) v =
        eases_then (copy_steps p v) (steps c h r v) (steps c h (unensured r) v) (moves_in 7 e r v) (moves_in 7 e (unensured r) v)
        (eases_in r v (eases_after r v))
    eases_after (row_swap p r) v =
        eases_then (swap_steps p v) (steps c h r v) (steps c h (unensured r) v) (moves_in 7 e r v) (moves_in 7 e (unensured r) v)
        (eases_in r v (eases_after r v))
    eases_after (row_wide p o r) v =
        eases_suc (both (wide_steps p o v) (steps c h r v)) (both (wide_steps p o v) (steps c h (unensured r) v)) (moves_in 7 e r v)
        (moves_in 7 e (unensured r) v)
        (eases_then (wide_steps p o v) (steps c h r v) (steps c h (unensured r) v) (moves_in 7 e r v) (moves_in 7 e (unensured r) v)
        (eases_in r v (eases_after r v)))
    eases_after (each p b r) v =
        eases_both (on_some (on_some (at p v) elements_in) (over (steps c h b)))
        (on_some (on_some (at p v) elements_in) (over (steps c h (unensured b)))) (steps c h r v) (steps c h (unensured r) v)
        (of_some (on_some (at p v) elements_in) (of_each (moves_in 7 e b)))
        (of_some (on_some (at p v) elements_in) (of_each (moves_in 7 e (unensured b)))) (moves_in 7 e r v) (moves_in 7 e (unensured r) v)
        (eases_some (on_some (at p v) elements_in) (over (steps c h b)) (over (steps c h (unensured b))) (of_each (moves_in 7 e b))
        (of_each (moves_in 7 e (unensured b))) (eases_over (steps c h b) (steps c h (unensured b)) (moves_in 7 e b)
        (moves_in 7 e (unensured b)) (λ w. eases_in b w (eases_after b w)))) (eases_in r v (eases_after r v))
    eases_after (switch p cs r) v =
        eases_both (on_some (on_some (at p v) arm_in) (λ a. case_steps c h cs a.0 a.1))
        (on_some (on_some (at p v) arm_in) (λ a. case_steps c h (cases_unensured cs) a.0 a.1)) (steps c h r v) (steps c h (unensured r) v)
        (of_some (on_some (at p v) arm_in) (λ a. case_moves 7 e cs a.0 a.1))
        (of_some (on_some (at p v) arm_in) (λ a. case_moves 7 e (cases_unensured cs) a.0 a.1)) (moves_in 7 e r v)
        (moves_in 7 e (unensured r) v)
        (eases_some (on_some (at p v) arm_in) (λ a. case_steps c h cs a.0 a.1) (λ a. case_steps c h (cases_unensured cs) a.0 a.1)
        (λ a. case_moves 7 e cs a.0 a.1) (λ a. case_moves 7 e (cases_unensured cs) a.0 a.1) (λ a. cases_after cs a.0 a.1))
        (eases_in r v (eases_after r v))
    eases_after (if_there p b r) v =
        eases_both (on_some (at p v) (if_present (steps c h b))) (on_some (at p v) (if_present (steps c h (unensured b)))) (steps c h r v)
        (steps c h (unensured r) v) (of_some (at p v) (of_present (moves_in 7 e b)))
        (of_some (at p v) (of_present (moves_in 7 e (unensured b)))) (moves_in 7 e r v) (moves_in 7 e (unensured r) v)
        (eases_some (at p v) (if_present (steps c h b)) (if_present (steps c h (unensured b))) (of_present (moves_in 7 e b))
        (of_present (moves_in 7 e (unensured b))) (eases_present (steps c h b) (steps c h (unensured b)) (moves_in 7 e b)
        (moves_in 7 e (unensured b)) (λ w. eases_in b w (eases_after b w)))) (eases_in r v (eases_after r v))
    eases_after (call k p r) v =
        eases_both (on_some (at p v) (c k)) (on_some (at p v) (c k)) (steps c h r v) (steps c h (unensured r) v) (of_some (at p v) (e k))
        (of_some (at p v) (e k)) (moves_in 7 e r v) (moves_in 7 e (unensured r) v) (eases_self (on_some (at p v) (c k))
        (of_some (at p v) (e k))) (eases_in r v (eases_after r v))
    eases_after (patch a s o r) v =
        eases_then (Some (Patched a s o ∷ [])) (steps c h r v) (steps c h (unensured r) v) (moves_in 7 e r v) (moves_in 7 e (unensured r) v)
        (eases_in r v (eases_after r v))

    cases_after : (cs : Cases) (n : ℤ) (w : Val)
        → Eases (case_steps c h cs n w) (case_steps c h (cases_unensured cs) n w) (case_moves 7 e cs n w)
        (case_moves 7 e (cases_unensured cs) n w)
    cases_after no_default n w = λ ss f. absurd cc
    cases_after (default b) n w = eases_in b w (eases_after b w)
    cases_after (case m b cs) n w =
        eases_if (int_eq n m) (steps c h b w) (steps c h (unensured b) w) (case_steps c h cs n w)
        (case_steps c h (cases_unensured cs) n w) (moves_in 7 e b w) (moves_in 7 e (unensured b) w) (case_moves 7 e cs n w)
        (case_moves 7 e (cases_unensured cs) n w) (eases_in b w (eases_after b w)) (cases_after cs n w)

  -- all that a block is allowed
  pub eases : (b : Block) (v : Val) → Eases (steps c h b v) (steps c h (unensured b) v) (moves_in 7 e b v) (moves_in 7 e (unensured b) v)
  eases b v = eases_in b v (eases_after b v)
