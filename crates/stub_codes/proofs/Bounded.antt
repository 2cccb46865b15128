-- Code that goes through a type, with its rows as blocks, has few moves and few stores, by induction on the type.
use Rattle.std.proofs.Common.{◌≡◌, ℕ, suc, ◌+◌, ◌*◌, ◌-◌, ◌≤◌, ℤ, List, [], ◌∷◌, ◌++◌, length, map, Option, None, Some, option_map, Bool, true, false, if◌then◌else◌, refl, sym, ap, subst, ◌∙◌, arith}
use Rattle.std.specs.Prelude.{MatchBool, nat_eq}
use Rattle.std.specs.Ordering.{int_eq}
use Rattle.mint.specs.declared.kind.Count.{Count}
use Rattle.mint.specs.declared.kind.Count.TheVariants.{Exactly, AtMost, Any}
use Rattle.mint.specs.declared.kind.Kind.{Kind}
use Rattle.mint.specs.Kinds.{width}
use Rattle.mint.specs.Row.{image_of}
use Rattle.mint.specs.Types.{Ty, void_type, scalar_type, array_type, group_type, items_type, choice_type, maybe_type, Tys, no_fields, field, Arms, no_other, others, arm_type}
use Rattle.mint.specs.Typed.{IsOf, AreOf, IsOfArm, Each}
use Rattle.mint.specs.Values.{Val, num, row, group, items, arm, absent, present, Vals, no_more, val, vals_of, row_in, arm_in}
use Rattle.wire_def.specs.declared.encoding.Encoding.{Encoding}
use Rattle.wire_def.specs.declared.head.Head.{Head}
use Rattle.wire_def.specs.declared.head.Order.{Order}
use Rattle.wire_def.specs.Arrays.{kind_of}
use Rattle.cast_stub.specs.Append.{append}
use Rattle.cast_stub.specs.Block.{Block, stop, align, chunk, row_copy, row_swap, row_wide, each, switch, if_there, patch, Cases}
use Rattle.cast_stub.specs.Entries.{array_entries, inner_entries, fields_entries, arm_entries, entries, is_whole, array_leaves, leaves, fields_leaves, arm_leaves}
use Rattle.cast_stub.specs.Follows.{flat, own_put, IsCount, FollowsBy, FieldsFollowBy, ArmsFollowBy}
use Rattle.cast_stub.specs.Framed.{IsTail}
use Rattle.cast_stub.specs.Kept.{unensured}
use Rattle.cast_stub.specs.Layouts.{order_of, layout_of, element_width, is_looped}
use Rattle.cast_stub.specs.Meaning.{costs}
use Rattle.cast_stub.specs.Met.{met, Begins, of_some, of_each, of_present, moves_after, case_moves, moves_in}
use Rattle.cast_stub.specs.PartTypes.{ty_at, present_type, present_at, arms_type, arms_at}
use Rattle.cast_stub.specs.Parts.{on_some, at, elements_in}
use Rattle.cast_stub.specs.Puts.{filled}
use Rattle.cast_stub.specs.Steps.{Step, Pad, Stored, Widened, Copied, Patched, Steps, both, is_width, chunk_steps, align_steps, copy_steps, swap_steps, wide_steps, swapped, wide, Calls, over, if_present, steps, case_steps}
use Rattle.cast_stub.specs.Subs.{no_subs}
use Rattle.cast_stub.specs.Turned.{IsTurned}
use Rattle.cast_stub.proofs.Appending.{append-stop, append-assoc, steps-append}
use Rattle.cast_stub.proofs.Followed.{own, mapped}
use Rattle.chunker.proofs.Keeping.{met-append}
use Rattle.copy_inline.specs.declared.sorts.Sort.{Sort}
use Rattle.copy_inline.specs.declared.sorts.Sort.TheVariants as sort
use Rattle.copy_inline.specs.Sorts.{is_image}
use Rattle.copy_inline.specs.Rowed.{row_or_loop, loop_rowed, by_type, rowed, cases_rowed}
use Rattle.copy_inline.proofs.RowCounts.{rowed-append, rowed-unensured, flat_rowed}
use Rattle.hoist.proofs.Ways.{AreFrom, from-first, from-next, from-head, ty-field, at-field}
use Rattle.hoist.proofs.Standing.{ValuesFrom, values-first, values-next, values-head}
use Rattle.stub_codes.proofs.Eased.{eases}
use Rattle.chunker.proofs.Moves.{at_most as run_most}

-- ---- stores

-- steps that are there meet so many puts, aligns and numbers of wide rows at most
abbrev pub Upto : Steps → ℕ → Type 0
Upto x n = (ss : List Step) → x ≡ Some ss → met ss ≤ n

upto_is : (s : List Step) (n : ℕ) → met s ≤ n → Upto (Some s) n
upto_is s n le ss e = let same : s ≡ ss = cc in subst (λ (l : List Step). met l ≤ n) same le

upto_less : (x : Steps) (n m : ℕ) → n ≤ m → Upto x n → Upto x m
upto_less x n m le f ss e = let most = f ss e in omega (arith, most, le)

upto_both : (x y : Steps) (n m : ℕ) → Upto x n → Upto y m → Upto (both x y) (n + m)
upto_both None y n m f g ss e = absurd cc
upto_both (Some a) None n m f g ss e = absurd cc
upto_both (Some a) (Some b) n m f g ss e =
    let same : a ++ b ≡ ss = cc in
    let first = f a refl in
    let rest = g b refl in
    subst (λ (l : List Step). met l ≤ n + m) same (omega (arith, met-append a b, first, rest))

upto_on : {A : Type 0} (z : Option A) (f : A → Steps) (n : ℕ) → ((a : A) → Upto (f a) n) → Upto (on_some z f) n
upto_on None f n g = λ ss e. absurd cc
upto_on (Some a) f n g = g a

upto_pad : (q : Bool) (a : ℕ) → Upto (if q then Some (Pad a ∷ []) else None) 1
upto_pad true a = upto_is (Pad a ∷ []) 1 (omega arith)
upto_pad false a = λ ss e. absurd cc

upto_chunk : (z : Option (List ℕ)) (n : ℕ) → Upto (on_some z (λ o. Some (Stored o n ∷ []))) n
upto_chunk z n = upto_on z (λ o. Some (Stored o n ∷ [])) n (λ o. upto_is (Stored o n ∷ []) n (omega arith))

same_some : {A : Type 0} (a b : A) → Some a ≡ Some b → a ≡ b
same_some a b e = cc

summed : (f : ℕ → ℕ) (x : Option ℕ) (n m : ℕ) → option_map f x ≡ Some n → x ≡ Some m → f m ≡ n
summed f x n m e is = same_some (f m) n (sym (ap (option_map f) is) ∙ e)

module _ (c : Calls) (h : Head) (g : Begins) where
  -- a block before others: so many moves more, and so many stores
  abbrev pub Held : Block → Val → ℕ → ℕ → Type 0
  Held x v m n = ((r : Block) → moves_after 7 g (append x r) v ≤ m + moves_after 7 g r v) × Upto (steps c h x v) n

  held_less : (x : Block) (v : Val) (m n i j : ℕ) → m ≤ i → n ≤ j → Held x v m n → Held x v i j
  held_less x v m n i j a b f =
      (λ r. let most = f.0 r in omega (arith, most, a), upto_less (steps c h x v) n j b f.1)

  pub held_append : (x y : Block) (v : Val) (m n i j : ℕ) → Held x v m n → Held y v i j → Held (append x y) v (m + i) (n + j)
  held_append x y v m n i j f k = (
    λ r. let first = f.0 (append y r) in
        let rest = k.0 r in
        subst (λ (b : Block). moves_after 7 g b v ≤ m + i + moves_after 7 g r v) (sym (append-assoc x y r)) (omega (arith, first, rest)),
    subst (λ (s : Steps). Upto s (n + j)) (sym (steps-append c h x y v)) (upto_both (steps c h x v) (steps c h y v) n j f.1 k.1),
  )

  pub held_flat : (b : Block) (n : ℕ) (v : Val) → flat b ≡ Some n → Held b v 0 n
  held_flat stop n v f = (λ r. omega arith, upto_is [] n (omega arith))
  held_flat (chunk s ps b) n v f =
      let m = mapped (λ k. length ps + k) (flat b) n f in
      let sum = summed (λ k. length ps + k) (flat b) n m.0 f m.1 in
      let rest = held_flat b m.0 v m.1 in (
        rest.0,
        upto_less (both (chunk_steps s ps h v) (steps c h b v)) (length ps + m.0) n (omega (arith, sum))
            (upto_both (chunk_steps s ps h v) (steps c h b v) (length ps) m.0 (upto_chunk (filled s ps h v) (length ps)) rest.1),
      )
  held_flat (align a b) n v f =
      let m = mapped suc (flat b) n f in
      let sum = summed suc (flat b) n m.0 f m.1 in
      let rest = held_flat b m.0 v m.1 in (
        rest.0,
        upto_less (both (align_steps a) (steps c h b v)) (1 + m.0) n (omega (arith, sum))
            (upto_both (align_steps a) (steps c h b v) 1 m.0 (upto_pad (is_width a) a) rest.1),
      )
  held_flat _ n v f = absurd cc

  flat_after : (b : Block) (n : ℕ) (v : Val) → flat b ≡ Some n → moves_after 7 g b v ≡ 0
  flat_after stop n v f = refl
  flat_after (chunk s ps b) n v f = let m = mapped (λ k. length ps + k) (flat b) n f in flat_after b m.0 v m.1
  flat_after (align a b) n v f = let m = mapped suc (flat b) n f in flat_after b m.0 v m.1
  flat_after _ n v f = absurd cc

  -- a body by itself
  in_held : (x : Block) (v : Val) (m n : ℕ) → Held x v m n → moves_in 7 g x v ≤ 7 + m
  in_held x v m n f =
      let most = subst (λ (b : Block). moves_after 7 g b v ≤ m + 0) (append-stop x) (f.0 stop) in
      let run = run_most x in
      omega (arith, most, run)

  -- ---- rows and texts

  -- the stores of a row or text beside its loop
  abbrev loop_stores : Bool → List ℤ → ℕ
  loop_stores whole ns = if whole then 0 else 3 * length ns

  turn_moves : (turn : Block) (l : ℕ) → flat turn ≡ Some l → (ns : List ℤ)
      → of_each (moves_in 7 g turn) (vals_of (map num ns)) ≤ 7 * length ns
  turn_moves turn l f [] = omega arith
  turn_moves turn l f (n ∷ ns) =
      let none = flat_after turn l (num n) f in
      let run = run_most turn in
      let rest = turn_moves turn l f ns in
      omega (arith, none, run, rest)

  turn_stores : (turn : Block) (l : ℕ) → flat turn ≡ Some l → l ≤ 3 → (ns : List ℤ)
      → Upto (over (steps c h turn) (vals_of (map num ns))) (3 * length ns)
  turn_stores turn l f le [] = upto_is [] (3 * 0) (omega arith)
  turn_stores turn l f le (n ∷ ns) =
      let one = held_flat turn l (num n) f in
      upto_less (both (steps c h turn (num n)) (over (steps c h turn) (vals_of (map num ns)))) (l + 3 * length ns) (3 * suc (length ns))
      (omega (arith, le))
      (upto_both (steps c h turn (num n)) (over (steps c h turn) (vals_of (map num ns))) l (3 * length ns) one.1
      (turn_stores turn l f le ns))

  loop_held : (p : List ℕ) (turn : Block) (v0 : Val) (k : Kind) (ns : List ℤ) (l : ℕ) → flat turn ≡ Some l → l ≤ 3
      → at p v0 ≡ Some (row k ns) → Held (each p turn stop) v0 (8 * suc (length ns)) (3 * length ns)
  loop_held p turn v0 k ns l f le here =
      let moves : of_some (on_some (at p v0) elements_in) (of_each (moves_in 7 g turn)) ≤ 7 * length ns =
      subst (λ (x : Option Val). of_some (on_some x elements_in) (of_each (moves_in 7 g turn)) ≤ 7 * length ns) (sym here)
      (turn_moves turn l f ns) in
      let stores : Upto (on_some (on_some (at p v0) elements_in) (over (steps c h turn))) (3 * length ns) =
      subst (λ (x : Option Val). Upto (on_some (on_some x elements_in) (over (steps c h turn))) (3 * length ns)) (sym here)
      (turn_stores turn l f le ns) in (
        λ r. let run = run_most r in omega (arith, moves, run),
        upto_less (both (on_some (on_some (at p v0) elements_in) (over (steps c h turn))) (Some [])) (3 * length ns + 0) (3 * length ns)
            (omega arith)
            (upto_both (on_some (on_some (at p v0) elements_in) (over (steps c h turn))) (Some []) (3 * length ns) 0 stores
            (upto_is [] 0 (omega arith))),
      )

  wide_upto : (p : List ℕ) (o : Order) (v0 : Val) (k : Kind) (ns : List ℤ) → at p v0 ≡ Some (row k ns)
      → Upto (wide_steps p o v0) (3 * length ns)
  wide_upto p o v0 k ns here =
      subst (λ (x : Option Val). Upto (on_some (on_some x row_in) (λ r. on_some (wide o r.1) (λ os. Some (Widened os (length r.1) ∷ []))))
      (3 * length ns)) (sym here)
      (upto_on (wide o ns) (λ os. Some (Widened os (length ns) ∷ [])) (3 * length ns)
      (λ os. upto_is (Widened os (length ns) ∷ []) (3 * length ns) (omega arith)))

  op_upto : (x : Steps) (n : ℕ) → Upto x n → Upto (both x (Some [])) n
  op_upto x n f = upto_less (both x (Some [])) (n + 0) n (omega arith) (upto_both x (Some []) n 0 f (upto_is [] 0 (omega arith)))

  copy_held : (p : List ℕ) (v0 : Val) → Held (row_copy p stop) v0 8 0
  copy_held p v0 = (
    λ r. let run = run_most r in omega (arith, run),
    op_upto (copy_steps p v0) 0
        (upto_on (on_some (at p v0) row_in) (λ x. Some (Copied (image_of x.0 x.1) ∷ [])) 0
        (λ x. upto_is (Copied (image_of x.0 x.1) ∷ []) 0 (omega arith))),
  )

  swap_held : (p : List ℕ) (v0 : Val) → Held (row_swap p stop) v0 8 0
  swap_held p v0 = (
    λ r. let run = run_most r in omega (arith, run),
    op_upto (swap_steps p v0) 0
        (upto_on (on_some (at p v0) row_in) (λ x. Some (Copied (swapped x.0 x.1) ∷ [])) 0
        (λ x. upto_is (Copied (swapped x.0 x.1) ∷ []) 0 (omega arith))),
  )

  wide_held : (p : List ℕ) (o : Order) (v0 : Val) (k : Kind) (ns : List ℤ) → at p v0 ≡ Some (row k ns)
      → Held (row_wide p o stop) v0 8 (3 * length ns)
  wide_held p o v0 k ns here =
      (λ r. let run = run_most r in omega (arith, run), op_upto (wide_steps p o v0) (3 * length ns) (wide_upto p o v0 k ns here))

  -- a row or text by its sort, and what comes after it
  array_held : (looped same image : Bool) (o : Order) (p : List ℕ) (turn rest : Block) (v0 : Val) (k : Kind) (ns : List ℤ) (l m : ℕ)
      → flat turn ≡ Some l → l ≤ 3 → flat rest ≡ Some m → at p v0 ≡ Some (row k ns)
      → Held (row_or_loop (if looped then sort.Looped else if same then sort.Block else sort.Wide) image o p turn rest) v0
      (8 * array_entries looped (row k ns)) (loop_stores (if looped then false else same) ns + m)
  array_held true same image o p turn rest v0 k ns l m f le after here =
      held_less (each p turn rest) v0 (8 * suc (length ns) + 0) (3 * length ns + m) (8 * suc (length ns)) (3 * length ns + m) (omega arith)
      (omega arith)
      (held_append (each p turn stop) rest v0 (8 * suc (length ns)) (3 * length ns) 0 m (loop_held p turn v0 k ns l f le here)
      (held_flat rest m v0 after))
  array_held false true true o p turn rest v0 k ns l m f le after here =
      held_less (row_copy p rest) v0 (8 + 0) (0 + m) (8 * 1) (0 + m) (omega arith) (omega arith)
      (held_append (row_copy p stop) rest v0 8 0 0 m (copy_held p v0) (held_flat rest m v0 after))
  array_held false true false o p turn rest v0 k ns l m f le after here =
      held_less (row_swap p rest) v0 (8 + 0) (0 + m) (8 * 1) (0 + m) (omega arith) (omega arith)
      (held_append (row_swap p stop) rest v0 8 0 0 m (swap_held p v0) (held_flat rest m v0 after))
  array_held false false image o p turn rest v0 k ns l m f le after here =
      held_less (row_wide p o rest) v0 (8 + 0) (3 * length ns + m) (8 * 1) (3 * length ns + m) (omega arith) (omega arith)
      (held_append (row_wide p o stop) rest v0 8 (3 * length ns) 0 m (wide_held p o v0 k ns here) (held_flat rest m v0 after))

  -- a row or text is one leaf, and each number that is stored by itself
  array_stores : (whole : Bool) (k : Kind) (ns : List ℤ) (a b m : ℕ) → a + b + m ≤ 3 → a + (loop_stores whole ns + m)
      ≤ 3 * array_leaves whole (row k ns)
  array_stores true k ns a b m le = omega (arith, le)
  array_stores false k ns a b m le = omega (arith, le)

  -- ---- lists and bodies

  each_moves : (x : Block) (f n : Val → ℕ) (t : Ty) (vs : Vals) → Each (IsOf t) vs
      → ((w : Val) → IsOf t w → Held x w (8 * f w) (3 * n w)) → of_each (moves_in 7 g x) vs ≤ 8 * of_each (λ w. suc (f w)) vs
  each_moves x f n t no_more of k = omega arith
  each_moves x f n t (val w vs) of k =
      let one = in_held x w (8 * f w) (3 * n w) (k w of.0) in
      let rest = each_moves x f n t vs of.1 k in
      omega (arith, one, rest)

  each_stores : (x : Block) (f n : Val → ℕ) (t : Ty) (vs : Vals) → Each (IsOf t) vs
      → ((w : Val) → IsOf t w → Held x w (8 * f w) (3 * n w)) → Upto (over (steps c h x) vs) (3 * of_each n vs)
  each_stores x f n t no_more of k = upto_is [] (3 * 0) (omega arith)
  each_stores x f n t (val w vs) of k =
      let one = k w of.0 in
      upto_less (both (steps c h x w) (over (steps c h x) vs)) (3 * n w + 3 * of_each n vs) (3 * of_each n (val w vs)) (omega arith)
      (upto_both (steps c h x w) (over (steps c h x) vs) (3 * n w) (3 * of_each n vs) one.1 (each_stores x f n t vs of.1 k))

  module _ (e : Encoding) where
    -- what stands before the operations of a type that have bodies
    before_held : (t : Ty) (a b : Block) (v : Val) (k m n : ℕ) → flat a ≡ Some k → Held (rowed e t b) v m n
        → Held (rowed e t (append a b)) v m (k + n)
    before_held t a b v k m n f j =
        subst (λ (x : Block). Held x v m (k + n))
        (sym (rowed-append e t a b ∙ ap (λ (x : Block). append x (rowed e t b)) (flat_rowed e c h t a k f)))
        (held_less (append a (rowed e t b)) v (0 + m) (k + n) m (k + n) (omega arith) (omega arith)
        (held_append a (rowed e t b) v 0 k m n (held_flat a k v f) j))

    count_held : (t : Ty) (s : Count) (a b : Block) (v : Val) (m n : ℕ) → IsCount s a → Held (rowed e t b) v m n
        → Held (rowed e t (append a b)) v m (3 + n)
    count_held t (Exactly i) a b v m n f j =
        subst (λ (x : Block). Held (rowed e t (append x b)) v m (3 + n)) (sym f)
        (held_less (rowed e t b) v m n m (3 + n) (omega arith) (omega arith) j)
    count_held t (AtMost i) a b v m n f j =
        held_less (rowed e t (append a b)) v m (f.0 + n) m (3 + n) (omega arith) (omega (arith, f.2)) (before_held t a b v f.0 m n f.1 j)
    count_held t Any a b v m n f j =
        held_less (rowed e t (append a b)) v m (f.0 + n) m (3 + n) (omega arith) (omega (arith, f.2)) (before_held t a b v f.0 m n f.1 j)

    -- a value behind a flag
    some_held : (t : Ty) (below : ℕ) (p : List ℕ) (b : Block) (t0 : Ty) (v0 v : Val) (i l : ℕ) → ty_at p t0 ≡ Some (maybe_type t)
        → at p v0 ≡ Some v → (f : FollowsBy (IsTurned (layout_of e)) no_subs (maybe_type t) below p b)
        → of_present (moves_in 7 g (rowed e t f.1)) v ≤ 7 + 8 * i → Upto (if_present (steps c h (rowed e t f.1)) v) (3 * l)
        → Held (rowed e t0 b) v0 (8 * suc (suc i)) (3 * suc l)
    some_held t below p b t0 v0 v i l is here f most stores =
        let x : Block = rowed e t f.1 in
        let few : of_some (at p v0) (of_present (moves_in 7 g x)) ≤ 7 + 8 * i =
        subst (λ (z : Option Val). of_some z (of_present (moves_in 7 g x)) ≤ 7 + 8 * i) (sym here) most in
        let upto : Upto (on_some (at p v0) (if_present (steps c h x))) (3 * l) =
        subst (λ (z : Option Val). Upto (on_some z (if_present (steps c h x))) (3 * l)) (sym here) stores in
        let typed : present_at p t0 ≡ Some t = ap (λ (z : Option Ty). on_some z present_type) is in
        let one : Held (if_there p x stop) v0 (8 * suc (suc i)) (3 * l) =
        (λ r. let run = run_most r in omega (arith, few, run), op_upto (on_some (at p v0) (if_present (steps c h x))) (3 * l) upto) in
        let there : Held (rowed e t0 (if_there p f.1 stop)) v0 (8 * suc (suc i)) (3 * l) =
        subst (λ (z : Option Ty). Held (if_there p (by_type z f.1 (λ u. rowed e u f.1)) stop) v0 (8 * suc (suc i)) (3 * l)) (sym typed)
        one in
        subst (λ (y : Block). Held (rowed e t0 y) v0 (8 * suc (suc i)) (3 * suc l)) (sym f.2)
        (held_less (rowed e t0 (append f.0 (if_there p f.1 stop))) v0 (8 * suc (suc i)) ((f.3).0 + 3 * l) (8 * suc (suc i)) (3 * suc l)
        (omega arith) (omega (arith, (f.3).2))
        (before_held t0 f.0 (if_there p f.1 stop) v0 (f.3).0 (8 * suc (suc i)) (3 * l) (f.3).1 there))

    -- the body of an arm
    abbrev Arm : Cases → ℤ → Val → ℕ → ℕ → Type 0
    Arm cs n w i l = (case_moves 7 g cs n w ≤ 7 + 8 * i) × Upto (case_steps c h cs n w) (3 * l)

    arm_if : (q : Bool) (P Q : Type 0) (x y i j a b : ℕ) (s z : Steps) → MatchBool q P Q
        → (P → (x ≤ 7 + 8 * i) × Upto s (3 * a)) → (Q → (y ≤ 7 + 8 * j) × Upto z (3 * b))
        → ((if q then x else y) ≤ 7 + 8 * (if q then i else j)) × Upto (if q then s else z) (3 * (if q then a else b))
    arm_if true P Q x y i j a b s z h f k = f h
    arm_if false P Q x y i j a b s z h f k = k h

    body_held : (x : Block) (w : Val) (i l : ℕ) → Held x w (8 * i) (3 * l) → (moves_in 7 g x w ≤ 7 + 8 * i) × Upto (steps c h x w) (3 * l)
    body_held x w i l f = (in_held x w (8 * i) (3 * l) f, f.1)

    mutual
      pub held : (t : Ty) (below : ℕ) (p : List ℕ) (b : Block) (t0 : Ty) (v0 v : Val) → ty_at p t0 ≡ Some t → at p v0 ≡ Some v
          → IsOf t v → FollowsBy (IsTurned (layout_of e)) no_subs t below p b
          → Held (rowed e t0 b) v0 (8 * inner_entries e t v) (3 * leaves e t v)
      held void_type below p b t0 v0 v is here of f =
          subst (λ (x : Block). Held x v0 (8 * 0) (3 * 0)) (sym (flat_rowed e c h t0 b f.0 f.1))
          (held_less b v0 0 f.0 (8 * 0) (3 * 0) (omega arith) (omega (arith, f.2)) (held_flat b f.0 v0 f.1))
      held (scalar_type s) below p b t0 v0 v is here of f =
          subst (λ (x : Block). Held x v0 (8 * 0) (3 * 1)) (sym (flat_rowed e c h t0 b f.0 f.1))
          (held_less b v0 0 f.0 (8 * 0) (3 * 1) (omega arith) (omega (arith, f.2)) (held_flat b f.0 v0 f.1))
      held (array_type a) below p b t0 v0 (row k ns) is here of f =
          let s : Sort = if is_looped e a then sort.Looped else if nat_eq (element_width e a) (width (kind_of a)) then sort.Block
          else sort.Wide in
          let m : ℕ = 8 * array_entries (is_looped e a) (row k ns) in
          let n : ℕ = loop_stores (is_whole e a) ns + f.5 in
          let loop = array_held (is_looped e a) (nat_eq (element_width e a) (width (kind_of a))) (is_image (order_of e) (kind_of a))
          (order_of e) p f.1 f.2 v0 k ns f.4 f.5 f.8 f.10 f.9 here in
          let typed : Held (loop_rowed e (ty_at p t0) p f.1 (λ u. rowed e u f.1) f.2) v0 m n =
          subst (λ (x : Option Ty). Held (loop_rowed e x p f.1 (λ u. rowed e u f.1) f.2) v0 m n) (sym is) loop in
          let there : Held (rowed e t0 (each p f.1 f.2)) v0 m n =
          subst (λ (x : Block). Held (loop_rowed e (ty_at p t0) p f.1 (λ u. rowed e u f.1) x) v0 m n)
          (sym (flat_rowed e c h t0 f.2 f.5 f.9)) typed in
          subst (λ (x : Block). Held (rowed e t0 x) v0 m (3 * leaves e (array_type a) (row k ns))) (sym f.6)
          (held_less (rowed e t0 (append f.0 (each p f.1 f.2))) v0 m (f.3 + n) m (3 * leaves e (array_type a) (row k ns)) (omega arith)
          (array_stores (is_whole e a) k ns f.3 (f.4 - own_put f.1) f.5 f.11)
          (before_held t0 f.0 (each p f.1 f.2) v0 f.3 m n f.7 there))
      held (group_type ts) below p b t0 v0 (group vs) is here of f =
          fields_held ts vs 0 ts vs below p b t0 v0 is here (from-first ts) (values-first vs) of f
      held (items_type k t) below p b t0 v0 (items vs) is here of f =
          let x : Block = rowed e t f.1 in
          let body : (w : Val) → IsOf t w → Held x w (8 * inner_entries e t w) (3 * leaves e t w) =
          λ w o. held t below [] f.1 t w w refl refl o (own (FollowsBy (IsTurned (layout_of e)) no_subs t) below [] f.1 f.4) in
          let i : ℕ = of_each (λ w. suc (inner_entries e t w)) vs in
          let l : ℕ = of_each (leaves e t) vs in
          let few : of_some (on_some (at p v0) elements_in) (of_each (moves_in 7 g x)) ≤ 8 * i =
          subst (λ (z : Option Val). of_some (on_some z elements_in) (of_each (moves_in 7 g x)) ≤ 8 * i) (sym here)
          (each_moves x (inner_entries e t) (leaves e t) t vs of.1 body) in
          let upto : Upto (on_some (on_some (at p v0) elements_in) (over (steps c h x))) (3 * l) =
          subst (λ (z : Option Val). Upto (on_some (on_some z elements_in) (over (steps c h x))) (3 * l)) (sym here)
          (each_stores x (inner_entries e t) (leaves e t) t vs of.1 body) in
          let one : Held (each p x stop) v0 (8 * suc i) (3 * l) = (
            λ r. let run = run_most r in omega (arith, few, run),
            op_upto (on_some (on_some (at p v0) elements_in) (over (steps c h x))) (3 * l) upto,
          ) in
          let there : Held (rowed e t0 (each p f.1 stop)) v0 (8 * suc i) (3 * l) =
          subst (λ (z : Option Ty). Held (loop_rowed e z p f.1 (λ u. rowed e u f.1) stop) v0 (8 * suc i) (3 * l)) (sym is) one in
          subst (λ (y : Block). Held (rowed e t0 y) v0 (8 * suc i) (3 * suc l)) (sym f.2)
          (held_less (rowed e t0 (append f.0 (each p f.1 stop))) v0 (8 * suc i) (3 + 3 * l) (8 * suc i) (3 * suc l) (omega arith)
          (omega arith) (count_held t0 k f.0 (each p f.1 stop) v0 (8 * suc i) (3 * l) f.3 there))
      held (choice_type s arms) below p b t0 v0 (arm n w) is here of f =
          let xs : Cases = cases_rowed e arms f.1 in
          let i : ℕ = arm_entries e arms n w in
          let l : ℕ = arm_leaves e arms n w in
          let body : Arm xs n w i l = arms_held arms below f.1 n w of.1 f.4 in
          let few : of_some (on_some (at p v0) arm_in) (λ a. case_moves 7 g xs a.0 a.1) ≤ 7 + 8 * i =
          subst (λ (z : Option Val). of_some (on_some z arm_in) (λ a. case_moves 7 g xs a.0 a.1) ≤ 7 + 8 * i) (sym here) body.0 in
          let upto : Upto (on_some (on_some (at p v0) arm_in) (λ a. case_steps c h xs a.0 a.1)) (3 * l) =
          subst (λ (z : Option Val). Upto (on_some (on_some z arm_in) (λ a. case_steps c h xs a.0 a.1)) (3 * l)) (sym here) body.1 in
          let typed : arms_at p t0 ≡ Some arms = ap (λ (z : Option Ty). on_some z arms_type) is in
          let one : Held (switch p xs stop) v0 (8 * suc (suc i)) (3 * l) = (
            λ r. let run = run_most r in omega (arith, few, run),
            op_upto (on_some (on_some (at p v0) arm_in) (λ a. case_steps c h xs a.0 a.1)) (3 * l) upto,
          ) in
          let there : Held (rowed e t0 (switch p f.1 stop)) v0 (8 * suc (suc i)) (3 * l) =
          subst (λ (z : Option Arms). Held (switch p (by_type z f.1 (λ arms. cases_rowed e arms f.1)) stop) v0 (8 * suc (suc i)) (3 * l))
          (sym typed) one in
          subst (λ (y : Block). Held (rowed e t0 y) v0 (8 * suc (suc i)) (3 * suc l)) (sym f.2)
          (held_less (rowed e t0 (append f.0 (switch p f.1 stop))) v0 (8 * suc (suc i)) ((f.3).0 + 3 * l) (8 * suc (suc i)) (3 * suc l)
          (omega arith) (omega (arith, (f.3).2))
          (before_held t0 f.0 (switch p f.1 stop) v0 (f.3).0 (8 * suc (suc i)) (3 * l) (f.3).1 there))
      held (maybe_type t) below p b t0 v0 absent is here of f =
          some_held t below p b t0 v0 absent 0 0 is here f (omega arith) (upto_is [] (3 * 0) (omega arith))
      held (maybe_type t) below p b t0 v0 (present w) is here of f =
          let body = body_held (rowed e t f.1) w (inner_entries e t w) (leaves e t w)
          (held t below [] f.1 t w w refl refl of (own (FollowsBy (IsTurned (layout_of e)) no_subs t) below [] f.1 f.4)) in
          some_held t below p b t0 v0 (present w) (inner_entries e t w) (leaves e t w) is here f body.0 body.1
      held (array_type a) below p b t0 v0 _ is here of f = absurd of
      held (group_type ts) below p b t0 v0 _ is here of f = absurd of
      held (items_type k t) below p b t0 v0 _ is here of f = absurd of
      held (choice_type s arms) below p b t0 v0 _ is here of f = absurd of
      held (maybe_type t) below p b t0 v0 _ is here of f = absurd of

      fields_held : (ts : Tys) (vs : Vals) (i : ℕ) (all : Tys) (whole : Vals) (below : ℕ) (p : List ℕ) (b : Block) (t0 : Ty) (v0 : Val)
          → ty_at p t0 ≡ Some (group_type all) → at p v0 ≡ Some (group whole) → AreFrom i all ts → ValuesFrom i whole vs → AreOf ts vs
          → FieldsFollowBy (IsTurned (layout_of e)) no_subs ts i below p b
          → Held (rowed e t0 b) v0 (8 * fields_entries e ts vs) (3 * fields_leaves e ts vs)
      fields_held no_fields no_more i all whole below p b t0 v0 is here from values of f =
          subst (λ (x : Block). Held (rowed e t0 x) v0 (8 * 0) (3 * 0)) (sym f) (λ r. omega arith, upto_is [] (3 * 0) (omega arith))
      fields_held (field t ts) (val v vs) i all whole below p b t0 v0 is here from values of f =
          let first = held t below (p ++ i ∷ []) f.0 t0 v0 v (ty-field p i t0 (group_type all) t is (from-head i all t ts from))
          (at-field p i v0 whole v here (values-head i whole v vs values)) of.0
          (own (FollowsBy (IsTurned (layout_of e)) no_subs t) below (p ++ i ∷ []) f.0 f.3) in
          let rest = fields_held ts vs (suc i) all whole below p f.1 t0 v0 is here (from-next i all t ts from)
          (values-next i whole v vs values) of.1 f.4 in
          let m : ℕ = 8 * fields_entries e (field t ts) (val v vs) in
          let n : ℕ = 3 * fields_leaves e (field t ts) (val v vs) in
          subst (λ (x : Block). Held (rowed e t0 x) v0 m n) (sym f.2)
          (subst (λ (x : Block). Held x v0 m n) (sym (rowed-append e t0 f.0 f.1))
          (held_less (append (rowed e t0 f.0) (rowed e t0 f.1)) v0 (8 * inner_entries e t v + 8 * fields_entries e ts vs)
          (3 * leaves e t v + 3 * fields_leaves e ts vs) m n (omega arith) (omega arith)
          (held_append (rowed e t0 f.0) (rowed e t0 f.1) v0 (8 * inner_entries e t v) (3 * leaves e t v) (8 * fields_entries e ts vs)
          (3 * fields_leaves e ts vs) first rest)))
      fields_held no_fields (val v vs) i all whole below p b t0 v0 is here from values of f = absurd of
      fields_held (field t ts) no_more i all whole below p b t0 v0 is here from values of f = absurd of

      arms_held : (arms : Arms) (below : ℕ) (cs : Cases) (n : ℤ) (w : Val) → IsOfArm arms n w
          → ArmsFollowBy (IsTurned (layout_of e)) no_subs arms below cs
          → Arm (cases_rowed e arms cs) n w (arm_entries e arms n w) (arm_leaves e arms n w)
      arms_held no_other below cs n w of f = absurd of
      arms_held (others t) below cs n w of f =
          subst (λ (x : Cases). Arm (cases_rowed e (others t) x) n w (inner_entries e t w) (leaves e t w)) (sym f.1)
          (body_held (rowed e t f.0) w (inner_entries e t w) (leaves e t w)
          (held t below [] f.0 t w w refl refl of (own (FollowsBy (IsTurned (layout_of e)) no_subs t) below [] f.0 f.2)))
      arms_held (arm_type k t arms) below cs n w of f =
          subst (λ (x : Cases). Arm (cases_rowed e (arm_type k t arms) x) n w (arm_entries e (arm_type k t arms) n w)
          (arm_leaves e (arm_type k t arms) n w)) (sym f.2)
          (arm_if (int_eq n k) (IsOf t w) (IsOfArm arms n w) (moves_in 7 g (rowed e t f.0) w)
          (case_moves 7 g (cases_rowed e arms f.1) n w) (inner_entries e t w) (arm_entries e arms n w) (leaves e t w)
          (arm_leaves e arms n w) (steps c h (rowed e t f.0) w) (case_steps c h (cases_rowed e arms f.1) n w) of
          (λ o. body_held (rowed e t f.0) w (inner_entries e t w) (leaves e t w)
          (held t below [] f.0 t w w refl refl o (own (FollowsBy (IsTurned (layout_of e)) no_subs t) below [] f.0 f.3)))
          (λ o. arms_held arms below f.1 n w o f.4))

    -- ---- between a lead and a patch

    tail_held : (t : Ty) (last : Block) (v : Val) → IsTail last
        → (moves_after 7 g (rowed e t last) v ≤ 0) × Upto (steps c h (rowed e t last) v) 1
    tail_held t stop v f = (omega arith, upto_is [] 1 (omega arith))
    tail_held t (patch a s o stop) v f = (omega arith, upto_is (Patched a s o ∷ []) 1 (omega arith))
    tail_held t _ v f = absurd f

    framed_held : (t : Ty) (lead body last : Block) (n below : ℕ) (v : Val) → flat lead ≡ Some n → n ≤ 7
        → FollowsBy (IsTurned (layout_of e)) no_subs t below [] body → IsTail last → IsOf t v
        → (moves_in 7 g (rowed e t (append lead (append body last))) v ≤ 8 * entries e t v)
        × Upto (steps c h (rowed e t (append lead (append body last))) v) (3 * leaves e t v + 8)
    framed_held t lead body last n below v leads le goes ends of =
        let first = held_flat lead n v leads in
        let inner = held t below [] body t v v refl refl of goes in
        let end = tail_held t last v ends in
        let rest : Block = append (rowed e t body) (rowed e t last) in
        let all : Block = append lead rest in
        let is : rowed e t (append lead (append body last)) ≡ all =
        rowed-append e t lead (append body last)
        ∙ ap (λ (x : Block). append x (rowed e t (append body last))) (flat_rowed e c h t lead n leads)
        ∙ ap (append lead) (rowed-append e t body last) in
        let run = run_most all in
        let behind = first.0 rest in
        let within = inner.0 (rowed e t last) in
        let last_moves = end.0 in
        let body_upto : Upto (steps c h rest v) (3 * leaves e t v + 1) =
        subst (λ (s : Steps). Upto s (3 * leaves e t v + 1)) (sym (steps-append c h (rowed e t body) (rowed e t last) v))
        (upto_both (steps c h (rowed e t body) v) (steps c h (rowed e t last) v) (3 * leaves e t v) 1 inner.1 end.1) in
        let upto : Upto (steps c h all v) (n + (3 * leaves e t v + 1)) =
        subst (λ (s : Steps). Upto s (n + (3 * leaves e t v + 1))) (sym (steps-append c h lead rest v))
        (upto_both (steps c h lead v) (steps c h rest v) n (3 * leaves e t v + 1) first.1 body_upto) in
        let moves : moves_in 7 g all v ≤ 8 * entries e t v = omega (arith, run, behind, within, last_moves) in (
          subst (λ (x : Block). moves_in 7 g x v ≤ 8 * entries e t v) (sym is) moves,
          subst (λ (x : Block). Upto (steps c h x v) (3 * leaves e t v + 8)) (sym is)
              (upto_less (steps c h all v) (n + (3 * leaves e t v + 1)) (3 * leaves e t v + 8) (omega (arith, le)) upto),
        )

    -- whatever is ensured between
    pub bounded : (t : Ty) (b lead body last : Block) (n below : ℕ) (v : Val) → unensured b ≡ append lead (append body last)
        → flat lead ≡ Some n → n ≤ 7 → FollowsBy (IsTurned (layout_of e)) no_subs t below [] body → IsTail last → IsOf t v
        → (ss : List Step) → steps c h (rowed e t b) v ≡ Some ss
        → (moves_in 7 g (rowed e t b) v ≤ 8 * (entries e t v + (costs ss).checks)) × (met ss ≤ 3 * leaves e t v + 8)
    bounded t b lead body last n below v whole leads le goes ends of ss runs =
        let is : unensured (rowed e t b) ≡ rowed e t (append lead (append body last)) =
        rowed-unensured e b t ∙ ap (rowed e t) whole in
        let without = framed_held t lead body last n below v leads le goes ends of in
        let moves = subst (λ (x : Block). moves_in 7 g x v ≤ 8 * entries e t v) (sym is) without.0 in
        let upto = subst (λ (x : Block). Upto (steps c h x v) (3 * leaves e t v + 8)) (sym is) without.1 in
        let k = eases c h g (rowed e t b) v ss runs in
        let more = k.moves in
        let same = k.stores in
        let most = upto k.bare k.is in
        (omega (arith, moves, more), omega (arith, same, most))
