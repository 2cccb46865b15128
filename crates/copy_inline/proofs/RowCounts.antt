-- Code with its rows as blocks gives one row for each row or text of that sort, by induction on the type.
use Rattle.std.proofs.Common.{◌≡◌, ℕ, suc, ◌+◌, ◌*◌, ℤ, List, [], ◌∷◌, ◌++◌, length, Option, None, Some, refl, sym, ap, subst, ◌∙◌, arith, Bool, true, false, if◌then◌else◌}
use Rattle.std.specs.Prelude.{MatchBool}
use Rattle.std.specs.Ordering.{int_eq}
use Rattle.mint.specs.declared.kind.Count.{Count}
use Rattle.mint.specs.declared.kind.Count.TheVariants.{Exactly, AtMost, Any}
use Rattle.mint.specs.Row.{image_of}
use Rattle.mint.specs.Types.{Ty, void_type, scalar_type, array_type, group_type, items_type, choice_type, maybe_type, Tys, no_fields, field, Arms, no_other, others, arm_type}
use Rattle.mint.specs.Typed.{IsOf, AreOf, IsOfArm, Each}
use Rattle.mint.specs.Values.{Val, group, items, arm, absent, present, Vals, no_more, val, row_in, arm_in}
use Rattle.wire_def.specs.declared.encoding.Encoding.{Encoding}
use Rattle.wire_def.specs.declared.head.Head.{Head}
use Rattle.wire_def.specs.declared.head.Order.{Order}
use Rattle.wire_def.specs.Arrays.{kind_of}
use Rattle.cast_stub.specs.Append.{append}
use Rattle.cast_stub.specs.Parts.{on_some, at, elements_in, length_in}
use Rattle.cast_stub.specs.Puts.{filled}
use Rattle.cast_stub.specs.Block.{Block, stop, ensure, ensure_row, align, chunk, row_copy, row_swap, row_wide, each, switch, if_there, call, patch, Cases, no_default, default, case}
use Rattle.cast_stub.specs.Follows.{flat, IsCount, FollowsBy, FieldsFollowBy, ArmsFollowBy}
use Rattle.cast_stub.specs.Framed.{lead_length, IsTail}
use Rattle.cast_stub.specs.Kept.{unensured, cases_unensured}
use Rattle.cast_stub.specs.Layouts.{order_of, layout_of}
use Rattle.cast_stub.specs.Meaning.{costs}
use Rattle.cast_stub.specs.PartTypes.{ty_at, present_type, present_at, arms_type, arms_at}
use Rattle.cast_stub.specs.Steps.{Step, Room, Pad, Stored, Widened, Copied, Patched, Steps, both, is_width, chunk_steps, align_steps, copy_steps, swap_steps, wide_steps, swapped, wide, Calls, over, if_present, steps, case_steps}
use Rattle.cast_stub.specs.Subs.{no_subs}
use Rattle.cast_stub.specs.Turned.{IsTurned}
use Rattle.cast_stub.proofs.Appending.{steps-append}
use Rattle.cast_stub.proofs.Folding.{costs-append}
use Rattle.cast_stub.proofs.Followed.{own, mapped}
use Rattle.hoist.proofs.Ways.{AreFrom, from-first, from-next, from-head, ty-field, at-field}
use Rattle.hoist.proofs.Standing.{ValuesFrom, values-first, values-next, values-head}
use Rattle.copy_inline.specs.declared.sorts.Sort.{Sort}
use Rattle.copy_inline.specs.declared.sorts.Sort.TheVariants as sort
use Rattle.copy_inline.specs.Counted.{one_block, over_all, blocks, fields_blocks, arm_blocks}
use Rattle.copy_inline.specs.Sorts.{sort_of, is_image}
use Rattle.copy_inline.specs.Rowed.{row_or_loop, loop_rowed, by_type, rowed, cases_rowed}
use Rattle.copy_inline.specs.Rows.{IsFramed}

-- ---- the pass and what is before and after, and the pass and ensures

rows_append : (s : Sort) (image : Bool) (o : Order) (p : List ℕ) (b r s' : Block)
    → row_or_loop s image o p b (append r s') ≡ append (row_or_loop s image o p b r) s'
rows_append sort.Block true o p b r s' = refl
rows_append sort.Block false o p b r s' = refl
rows_append sort.Wide image o p b r s' = refl
rows_append sort.Looped image o p b r s' = refl

loop_append : (e : Encoding) (x : Option Ty) (p : List ℕ) (b : Block) (f : Ty → Block) (r s : Block)
    → loop_rowed e x p b f (append r s) ≡ append (loop_rowed e x p b f r) s
loop_append e (Some (array_type a)) p b f r s = rows_append (sort_of e a) (is_image (order_of e) (kind_of a)) (order_of e) p b r s
loop_append e (Some (items_type c t)) p b f r s = refl
loop_append e None p b f r s = refl
loop_append e (Some _) p b f r s = refl

pub rowed-append : (e : Encoding) (t : Ty) (a b : Block) → rowed e t (append a b) ≡ append (rowed e t a) (rowed e t b)
rowed-append e t stop b = refl
rowed-append e t (ensure n r) b = ap (ensure n) (rowed-append e t r b)
rowed-append e t (ensure_row p u x r) b = ap (ensure_row p u x) (rowed-append e t r b)
rowed-append e t (align a r) b = ap (align a) (rowed-append e t r b)
rowed-append e t (chunk s ps r) b = ap (chunk s ps) (rowed-append e t r b)
rowed-append e t (row_copy p r) b = ap (row_copy p) (rowed-append e t r b)
rowed-append e t (row_swap p r) b = ap (row_swap p) (rowed-append e t r b)
rowed-append e t (row_wide p o r) b = ap (row_wide p o) (rowed-append e t r b)
rowed-append e t (each p a r) b = ap (loop_rowed e (ty_at p t) p a (λ u. rowed e u a)) (rowed-append e t r b)
    ∙ loop_append e (ty_at p t) p a (λ u. rowed e u a) (rowed e t r) (rowed e t b)
rowed-append e t (switch p cs r) b = ap (switch p (by_type (arms_at p t) cs (λ arms. cases_rowed e arms cs))) (rowed-append e t r b)
rowed-append e t (if_there p a r) b = ap (if_there p (by_type (present_at p t) a (λ u. rowed e u a))) (rowed-append e t r b)
rowed-append e t (call k p r) b = ap (call k p) (rowed-append e t r b)
rowed-append e t (patch a s o r) b = ap (patch a s o) (rowed-append e t r b)

rows_unensured : (s : Sort) (image : Bool) (o : Order) (p : List ℕ) (b r : Block)
    → unensured (row_or_loop s image o p b r) ≡ row_or_loop s image o p (unensured b) (unensured r)
rows_unensured sort.Block true o p b r = refl
rows_unensured sort.Block false o p b r = refl
rows_unensured sort.Wide image o p b r = refl
rows_unensured sort.Looped image o p b r = refl

loop_unensured : (e : Encoding) (x : Option Ty) (p : List ℕ) (b : Block) (f g : Ty → Block) (r : Block) → ((u : Ty) → unensured (f u) ≡ g u)
    → unensured (loop_rowed e x p b f r) ≡ loop_rowed e x p (unensured b) g (unensured r)
loop_unensured e (Some (array_type a)) p b f g r go = rows_unensured (sort_of e a) (is_image (order_of e) (kind_of a)) (order_of e) p b r
loop_unensured e (Some (items_type c t)) p b f g r go = ap (λ (x : Block). each p x (unensured r)) (go t)
loop_unensured e None p b f g r go = refl
loop_unensured e (Some _) p b f g r go = refl

typed_unensured : {A B : Type 0} (x : Option A) (h : B → B) (b : B) (f g : A → B) → ((a : A) → h (f a) ≡ g a)
    → h (by_type x b f) ≡ by_type x (h b) g
typed_unensured None h b f g go = refl
typed_unensured (Some a) h b f g go = go a

mutual
  pub rowed-unensured : (e : Encoding) (b : Block) (t : Ty) → unensured (rowed e t b) ≡ rowed e t (unensured b)
  rowed-unensured e stop t = refl
  rowed-unensured e (ensure n r) t = rowed-unensured e r t
  rowed-unensured e (ensure_row p u x r) t = rowed-unensured e r t
  rowed-unensured e (align a r) t = ap (align a) (rowed-unensured e r t)
  rowed-unensured e (chunk s ps r) t = ap (chunk s ps) (rowed-unensured e r t)
  rowed-unensured e (row_copy p r) t = ap (row_copy p) (rowed-unensured e r t)
  rowed-unensured e (row_swap p r) t = ap (row_swap p) (rowed-unensured e r t)
  rowed-unensured e (row_wide p o r) t = ap (row_wide p o) (rowed-unensured e r t)
  rowed-unensured e (each p b r) t =
      loop_unensured e (ty_at p t) p b (λ u. rowed e u b) (λ u. rowed e u (unensured b)) (rowed e t r) (rowed-unensured e b)
      ∙ ap (loop_rowed e (ty_at p t) p (unensured b) (λ u. rowed e u (unensured b))) (rowed-unensured e r t)
  rowed-unensured e (switch p cs r) t =
      ap (λ (x : Cases). switch p x (unensured (rowed e t r))) (typed_unensured (arms_at p t) cases_unensured cs
      (λ arms. cases_rowed e arms cs) (λ arms. cases_rowed e arms (cases_unensured cs)) (cases-unensured e cs))
      ∙ ap (switch p (by_type (arms_at p t) (cases_unensured cs) (λ arms. cases_rowed e arms (cases_unensured cs)))) (rowed-unensured e r t)
  rowed-unensured e (if_there p b r) t =
      ap (λ (x : Block). if_there p x (unensured (rowed e t r)))
      (typed_unensured (present_at p t) unensured b (λ u. rowed e u b) (λ u. rowed e u (unensured b)) (rowed-unensured e b))
      ∙ ap (if_there p (by_type (present_at p t) (unensured b) (λ u. rowed e u (unensured b)))) (rowed-unensured e r t)
  rowed-unensured e (call k p r) t = ap (call k p) (rowed-unensured e r t)
  rowed-unensured e (patch a s o r) t = ap (patch a s o) (rowed-unensured e r t)

  cases-unensured : (e : Encoding) (cs : Cases) (arms : Arms)
      → cases_unensured (cases_rowed e arms cs) ≡ cases_rowed e arms (cases_unensured cs)
  cases-unensured e (default b) (others t) = ap default (rowed-unensured e b t)
  cases-unensured e (case m b cs) (arm_type k t arms) = ap (λ (x : Block). case m x (cases_unensured (cases_rowed e arms cs)))
      (rowed-unensured e b t) ∙ ap (case m (rowed e t (unensured b))) (cases-unensured e cs arms)
  cases-unensured e no_default no_other = refl
  cases-unensured e no_default (others t) = refl
  cases-unensured e no_default (arm_type k t arms) = refl
  cases-unensured e (default b) no_other = refl
  cases-unensured e (default b) (arm_type k t arms) = refl
  cases-unensured e (case m b cs) no_other = refl
  cases-unensured e (case m b cs) (others t) = refl

-- ---- ensures give no row

abbrev rows_in : List Step → ℕ
rows_in ss = (costs ss).rows

-- where the first are there, so are the second, and give as many rows
abbrev SameRows : Steps → Steps → Type 0
SameRows None y = Unit {0}
SameRows (Some a) None = ⊥
SameRows (Some a) (Some b) = rows_in b ≡ rows_in a

rows-append : (a b : List Step) → rows_in (a ++ b) ≡ rows_in a + rows_in b
rows-append a b = ap (λ c. c.rows) (costs-append a b)

rows_both : (x x' y y' : Steps) → SameRows x x' → SameRows y y' → SameRows (both x y) (both x' y')
rows_both None x' y y' j k = tt
rows_both (Some a) x' None y' j k = tt
rows_both (Some a) None (Some b) y' j k = absurd j
rows_both (Some a) (Some a') (Some b) None j k = absurd k
rows_both (Some a) (Some a') (Some b) (Some b') j k =
    rows-append a' b' ∙ ap (λ (n : ℕ). n + rows_in b') j ∙ ap (λ (n : ℕ). rows_in a + n) k ∙ sym (rows-append a b)

rows_self : (x : Steps) → SameRows x x
rows_self None = tt
rows_self (Some a) = refl

rows_room : (n : ℕ) (y y' : Steps) → SameRows y y' → SameRows (both (Some (Room n ∷ [])) y) y'
rows_room n None y' k = tt
rows_room n (Some b) None k = absurd k
rows_room n (Some b) (Some b') k = k ∙ none_more (rows_in b) where
  none_more : (n : ℕ) → n ≡ 0 + n
  none_more n = omega arith

rows_row_room : (z : Option ℕ) (u x : ℕ) (y y' : Steps) → SameRows y y'
    → SameRows (both (on_some z (λ n. Some (Room (n * u + x) ∷ []))) y) y'
rows_row_room None u x y y' k = tt
rows_row_room (Some n) u x y y' k = rows_room (n * u + x) y y' k

rows_on : {A : Type 0} (x : Option A) (f g : A → Steps) → ((a : A) → SameRows (f a) (g a)) → SameRows (on_some x f) (on_some x g)
rows_on None f g go = tt
rows_on (Some a) f g go = go a

rows_over : (f g : Val → Steps) (vs : Vals) → ((w : Val) → SameRows (f w) (g w)) → SameRows (over f vs) (over g vs)
rows_over f g no_more go = refl
rows_over f g (val w vs) go = rows_both (f w) (g w) (over f vs) (over g vs) (go w) (rows_over f g vs go)

rows_present : (f g : Val → Steps) (w : Val) → ((w : Val) → SameRows (f w) (g w)) → SameRows (if_present f w) (if_present g w)
rows_present f g absent go = refl
rows_present f g (present w) go = go w
rows_present f g _ go = tt

rows_if : (q : Bool) (x x' y y' : Steps) → SameRows x x' → SameRows y y' → SameRows (if q then x else y) (if q then x' else y')
rows_if true x x' y y' j k = j
rows_if false x x' y y' j k = k

module _ (c : Calls) (h : Head) where
  mutual
    rows_without : (b : Block) (v : Val) → SameRows (steps c h b v) (steps c h (unensured b) v)
    rows_without stop v = refl
    rows_without (ensure n r) v = rows_room n (steps c h r v) (steps c h (unensured r) v) (rows_without r v)
    rows_without (ensure_row p u x r) v =
        rows_row_room (on_some (at p v) length_in) u x (steps c h r v) (steps c h (unensured r) v) (rows_without r v)
    rows_without (align a r) v =
        rows_both (align_steps a) (align_steps a) (steps c h r v) (steps c h (unensured r) v) (rows_self (align_steps a)) (rows_without r v)
    rows_without (chunk s ps r) v = rows_both (chunk_steps s ps h v) (chunk_steps s ps h v) (steps c h r v) (steps c h (unensured r) v)
        (rows_self (chunk_steps s ps h v)) (rows_without r v)
    rows_without (row_copy p r) v = rows_both (copy_steps p v) (copy_steps p v) (steps c h r v) (steps c h (unensured r) v)
        (rows_self (copy_steps p v)) (rows_without r v)
    rows_without (row_swap p r) v = rows_both (swap_steps p v) (swap_steps p v) (steps c h r v) (steps c h (unensured r) v)
        (rows_self (swap_steps p v)) (rows_without r v)
    rows_without (row_wide p o r) v = rows_both (wide_steps p o v) (wide_steps p o v) (steps c h r v) (steps c h (unensured r) v)
        (rows_self (wide_steps p o v)) (rows_without r v)
    rows_without (each p b r) v =
        rows_both (on_some (on_some (at p v) elements_in) (over (steps c h b)))
        (on_some (on_some (at p v) elements_in) (over (steps c h (unensured b)))) (steps c h r v) (steps c h (unensured r) v)
        (rows_on (on_some (at p v) elements_in) (over (steps c h b)) (over (steps c h (unensured b)))
        (λ vs. rows_over (steps c h b) (steps c h (unensured b)) vs (rows_without b))) (rows_without r v)
    rows_without (switch p cs r) v =
        rows_both (on_some (on_some (at p v) arm_in) (λ a. case_steps c h cs a.0 a.1))
        (on_some (on_some (at p v) arm_in) (λ a. case_steps c h (cases_unensured cs) a.0 a.1)) (steps c h r v) (steps c h (unensured r) v)
        (rows_on (on_some (at p v) arm_in) (λ a. case_steps c h cs a.0 a.1) (λ a. case_steps c h (cases_unensured cs) a.0 a.1)
        (λ a. cases_without cs a.0 a.1)) (rows_without r v)
    rows_without (if_there p b r) v =
        rows_both (on_some (at p v) (if_present (steps c h b))) (on_some (at p v) (if_present (steps c h (unensured b)))) (steps c h r v)
        (steps c h (unensured r) v)
        (rows_on (at p v) (if_present (steps c h b)) (if_present (steps c h (unensured b)))
        (λ w. rows_present (steps c h b) (steps c h (unensured b)) w (rows_without b))) (rows_without r v)
    rows_without (call k p r) v = rows_both (on_some (at p v) (c k)) (on_some (at p v) (c k)) (steps c h r v) (steps c h (unensured r) v)
        (rows_self (on_some (at p v) (c k))) (rows_without r v)
    rows_without (patch a s o r) v = rows_both (Some (Patched a s o ∷ [])) (Some (Patched a s o ∷ [])) (steps c h r v)
        (steps c h (unensured r) v) refl (rows_without r v)

    cases_without : (cs : Cases) (n : ℤ) (w : Val) → SameRows (case_steps c h cs n w) (case_steps c h (cases_unensured cs) n w)
    cases_without no_default n w = tt
    cases_without (default b) n w = rows_without b w
    cases_without (case m b cs) n w = rows_if (int_eq n m) (steps c h b w) (steps c h (unensured b) w) (case_steps c h cs n w)
        (case_steps c h (cases_unensured cs) n w) (rows_without b w) (cases_without cs n w)

-- ---- how many rows

-- steps that are there give so many rows
abbrev pub Counts : Steps → ℕ → Type 0
Counts None n = Unit {0}
Counts (Some ss) n = rows_in ss ≡ n

counts_both : (x y : Steps) (m n : ℕ) → Counts x m → Counts y n → Counts (both x y) (m + n)
counts_both None y m n j k = tt
counts_both (Some a) None m n j k = tt
counts_both (Some a) (Some b) m n j k = rows-append a b ∙ ap (λ (i : ℕ). i + rows_in b) j ∙ ap (λ (i : ℕ). m + i) k

-- so many, in a sum with nothing else
counts_first : (x y : Steps) (m : ℕ) → Counts x m → Counts y 0 → Counts (both x y) m
counts_first x y m j k = let e : m + 0 ≡ m = omega arith in subst (Counts (both x y)) e (counts_both x y m 0 j k)

counts_then : (x y : Steps) (n : ℕ) → Counts x 0 → Counts y n → Counts (both x y) n
counts_then x y n j k = let e : 0 + n ≡ n = omega arith in subst (Counts (both x y)) e (counts_both x y 0 n j k)

counts_on : {A : Type 0} (x : Option A) (f : A → Steps) (n : ℕ) → ((a : A) → Counts (f a) n) → Counts (on_some x f) n
counts_on None f n go = tt
counts_on (Some a) f n go = go a

counts_pad : (q : Bool) (a : ℕ) → Counts (if q then Some (Pad a ∷ []) else None) 0
counts_pad true a = refl
counts_pad false a = tt

counts_if : (q : Bool) (P Q : Type 0) (x y : Steps) (m n : ℕ) → MatchBool q P Q → (P → Counts x m) → (Q → Counts y n)
    → Counts (if q then x else y) (if q then m else n)
counts_if true P Q x y m n h f g = f h
counts_if false P Q x y m n h f g = g h

none_over : (f : Val → Steps) (vs : Vals) → ((w : Val) → Counts (f w) 0) → Counts (over f vs) 0
none_over f no_more go = refl
none_over f (val w vs) go = counts_first (f w) (over f vs) 0 (go w) (none_over f vs go)

all_over : (f : Val → Steps) (g : Val → ℕ) (t : Ty) (vs : Vals) → Each (IsOf t) vs → ((w : Val) → IsOf t w → Counts (f w) (g w))
    → Counts (over f vs) (over_all g vs)
all_over f g t no_more h go = refl
all_over f g t (val w vs) h go = counts_both (f w) (over f vs) (g w) (over_all g vs) (go w h.0) (all_over f g t vs h.1 go)

module _ (e : Encoding) (c : Calls) (h : Head) where
  pub flat_rowed : (t : Ty) (b : Block) (n : ℕ) → flat b ≡ Some n → rowed e t b ≡ b
  flat_rowed t stop n f = refl
  flat_rowed t (chunk s ps r) n f = let m = mapped (λ k. length ps + k) (flat r) n f in ap (chunk s ps) (flat_rowed t r m.0 m.1)
  flat_rowed t (align a r) n f = let m = mapped suc (flat r) n f in ap (align a) (flat_rowed t r m.0 m.1)
  flat_rowed t _ n f = absurd cc

  flat_counts : (b : Block) (n : ℕ) → flat b ≡ Some n → (v : Val) → Counts (steps c h b v) 0
  flat_counts stop n f v = refl
  flat_counts (chunk s ps r) n f v =
      let m = mapped (λ k. length ps + k) (flat r) n f in
      counts_first (chunk_steps s ps h v) (steps c h r v) 0
      (counts_on (filled s ps h v) (λ o. Some (Stored o (length ps) ∷ [])) 0 (λ o. refl)) (flat_counts r m.0 m.1 v)
  flat_counts (align a r) n f v =
      let m = mapped suc (flat r) n f in
      counts_first (align_steps a) (steps c h r v) 0 (counts_pad (is_width a) a) (flat_counts r m.0 m.1 v)
  flat_counts _ n f v = absurd cc

  -- code before code that gives no row, or after it
  counts_append : (t : Ty) (a b : Block) (v : Val) (m n : ℕ) → Counts (steps c h (rowed e t a) v) m → Counts (steps c h (rowed e t b) v) n
      → Counts (steps c h (rowed e t (append a b)) v) (m + n)
  counts_append t a b v m n j k =
      subst (λ (x : Steps). Counts x (m + n))
      (sym (ap (λ (x : Block). steps c h x v) (rowed-append e t a b) ∙ steps-append c h (rowed e t a) (rowed e t b) v))
      (counts_both (steps c h (rowed e t a) v) (steps c h (rowed e t b) v) m n j k)

  after_flat : (t : Ty) (a b : Block) (v : Val) (k n : ℕ) → flat a ≡ Some k → Counts (steps c h (rowed e t b) v) n
      → Counts (steps c h (rowed e t (append a b)) v) n
  after_flat t a b v k n f j =
      let none : 0 + n ≡ n = omega arith in
      subst (Counts (steps c h (rowed e t (append a b)) v)) none
      (counts_append t a b v 0 n (subst (λ (x : Block). Counts (steps c h x v) 0) (sym (flat_rowed t a k f)) (flat_counts a k f v)) j)

  after_count : (t : Ty) (s : Count) (a b : Block) (v : Val) (n : ℕ) → IsCount s a → Counts (steps c h (rowed e t b) v) n
      → Counts (steps c h (rowed e t (append a b)) v) n
  after_count t (Exactly m) a b v n f j = subst (λ (x : Block). Counts (steps c h (rowed e t (append x b)) v) n) (sym f) j
  after_count t (AtMost m) a b v n f j = after_flat t a b v f.0 n f.1 j
  after_count t Any a b v n f j = after_flat t a b v f.0 n f.1 j

  -- a loop over an array, or what replaces it
  array_counts : (s : Sort) (image : Bool) (p : List ℕ) (b r : Block) (v : Val) (k : ℕ) → flat b ≡ Some k → Counts (steps c h r v) 0
      → Counts (steps c h (row_or_loop s image (order_of e) p b r) v) (one_block s)
  array_counts sort.Block true p b r v k f rest = counts_first (copy_steps p v) (steps c h r v) 1
      (counts_on (on_some (at p v) row_in) (λ x. Some (Copied (image_of x.0 x.1) ∷ [])) 1 (λ x. refl)) rest
  array_counts sort.Block false p b r v k f rest = counts_first (swap_steps p v) (steps c h r v) 1
      (counts_on (on_some (at p v) row_in) (λ x. Some (Copied (swapped x.0 x.1) ∷ [])) 1 (λ x. refl)) rest
  array_counts sort.Wide image p b r v k f rest =
      counts_first (wide_steps p (order_of e) v) (steps c h r v) 0
      (counts_on (on_some (at p v) row_in) (λ x. on_some (wide (order_of e) x.1) (λ os. Some (Widened os (length x.1) ∷ []))) 0
      (λ x. counts_on (wide (order_of e) x.1) (λ os. Some (Widened os (length x.1) ∷ [])) 0 (λ os. refl))) rest
  array_counts sort.Looped image p b r v k f rest =
      counts_first (on_some (on_some (at p v) elements_in) (over (steps c h b))) (steps c h r v) 0
      (counts_on (on_some (at p v) elements_in) (over (steps c h b)) 0 (λ vs. none_over (steps c h b) vs (flat_counts b k f))) rest

  abbrev Body : Block → Ty → Type 0
  Body b t = (w : Val) → IsOf t w → Counts (steps c h (rowed e t b) w) (blocks e t w)

  some_counted : (t : Ty) (below : ℕ) (p : List ℕ) (b : Block) (t0 : Ty) (v0 v : Val) → ty_at p t0 ≡ Some (maybe_type t) → at p v0 ≡ Some v
      → (f : FollowsBy (IsTurned (layout_of e)) no_subs (maybe_type t) below p b)
      → Counts (if_present (steps c h (rowed e t f.1)) v) (blocks e (maybe_type t) v)
      → Counts (steps c h (rowed e t0 b) v0) (blocks e (maybe_type t) v)
  some_counted t below p b t0 v0 v is here f body =
      let m : ℕ = blocks e (maybe_type t) v in
      let pick : Counts (on_some (at p v0) (if_present (steps c h (rowed e t f.1)))) m =
      subst (λ (x : Option Val). Counts (on_some x (if_present (steps c h (rowed e t f.1)))) m) (sym here) body in
      let typed : present_at p t0 ≡ Some t = ap (λ (x : Option Ty). on_some x present_type) is in
      let there : Counts (steps c h (rowed e t0 (if_there p f.1 stop)) v0) m =
      subst (λ (x : Option Ty). Counts (steps c h (if_there p (by_type x f.1 (λ u. rowed e u f.1)) stop) v0) m) (sym typed)
      (counts_first (on_some (at p v0) (if_present (steps c h (rowed e t f.1)))) (Some []) m pick refl) in
      subst (λ (x : Block). Counts (steps c h (rowed e t0 x) v0) m) (sym f.2)
      (after_flat t0 f.0 (if_there p f.1 stop) v0 (f.3).0 m (f.3).1 there)

  mutual
    counted : (t : Ty) (below : ℕ) (p : List ℕ) (b : Block) (t0 : Ty) (v0 v : Val) → ty_at p t0 ≡ Some t → at p v0 ≡ Some v → IsOf t v
        → FollowsBy (IsTurned (layout_of e)) no_subs t below p b
        → Counts (steps c h (rowed e t0 b) v0) (blocks e t v)
    counted void_type below p b t0 v0 v is here of f =
        subst (λ (x : Block). Counts (steps c h x v0) 0) (sym (flat_rowed t0 b f.0 f.1)) (flat_counts b f.0 f.1 v0)
    counted (scalar_type s) below p b t0 v0 v is here of f =
        subst (λ (x : Block). Counts (steps c h x v0) 0) (sym (flat_rowed t0 b f.0 f.1)) (flat_counts b f.0 f.1 v0)
    counted (array_type a) below p b t0 v0 v is here of f =
        let after = subst (λ (x : Block). Counts (steps c h x v0) 0) (sym (flat_rowed t0 f.2 f.5 f.9)) (flat_counts f.2 f.5 f.9 v0) in
        let loop = array_counts (sort_of e a) (is_image (order_of e) (kind_of a)) p f.1 (rowed e t0 f.2) v0 f.4 f.8 after in
        let there : Counts (steps c h (rowed e t0 (each p f.1 f.2)) v0) (one_block (sort_of e a)) =
        subst
        (λ (x : Option Ty). Counts (steps c h (loop_rowed e x p f.1 (λ u. rowed e u f.1) (rowed e t0 f.2)) v0) (one_block (sort_of e a)))
        (sym is) loop in
        subst (λ (x : Block). Counts (steps c h (rowed e t0 x) v0) (one_block (sort_of e a))) (sym f.6)
        (after_flat t0 f.0 (each p f.1 f.2) v0 f.3 (one_block (sort_of e a)) f.7 there)
    counted (group_type ts) below p b t0 v0 (group vs) is here of f =
        fields_counted ts vs 0 ts vs below p b t0 v0 is here (from-first ts) (values-first vs) of f
    counted (items_type k t) below p b t0 v0 (items vs) is here of f =
        let body : Body f.1 t =
        λ w o. counted t below [] f.1 t w w refl refl o (own (FollowsBy (IsTurned (layout_of e)) no_subs t) below [] f.1 f.4) in
        let loop : Counts (on_some (on_some (at p v0) elements_in) (over (steps c h (rowed e t f.1)))) (over_all (blocks e t) vs) =
        subst (λ (x : Option Val). Counts (on_some (on_some x elements_in) (over (steps c h (rowed e t f.1)))) (over_all (blocks e t) vs))
        (sym here) (all_over (steps c h (rowed e t f.1)) (blocks e t) t vs of.1 body) in
        let there : Counts (steps c h (rowed e t0 (each p f.1 stop)) v0) (over_all (blocks e t) vs) =
        subst (λ (x : Option Ty). Counts (steps c h (loop_rowed e x p f.1 (λ u. rowed e u f.1) stop) v0) (over_all (blocks e t) vs))
        (sym is)
        (counts_first (on_some (on_some (at p v0) elements_in) (over (steps c h (rowed e t f.1)))) (Some []) (over_all (blocks e t) vs) loop
        refl) in
        subst (λ (x : Block). Counts (steps c h (rowed e t0 x) v0) (over_all (blocks e t) vs)) (sym f.2)
        (after_count t0 k f.0 (each p f.1 stop) v0 (over_all (blocks e t) vs) f.3 there)
    counted (choice_type s arms) below p b t0 v0 (arm n w) is here of f =
        let m : ℕ = arm_blocks e arms n w in
        let body : Counts (case_steps c h (cases_rowed e arms f.1) n w) m = arms_counted arms below f.1 n w of.1 f.4 in
        let pick : Counts (on_some (on_some (at p v0) arm_in) (λ a. case_steps c h (cases_rowed e arms f.1) a.0 a.1)) m =
        subst (λ (x : Option Val). Counts (on_some (on_some x arm_in) (λ a. case_steps c h (cases_rowed e arms f.1) a.0 a.1)) m) (sym here)
        body in
        let typed : arms_at p t0 ≡ Some arms = ap (λ (x : Option Ty). on_some x arms_type) is in
        let there : Counts (steps c h (rowed e t0 (switch p f.1 stop)) v0) m =
        subst (λ (x : Option Arms). Counts (steps c h (switch p (by_type x f.1 (λ arms. cases_rowed e arms f.1)) stop) v0) m) (sym typed)
        (counts_first (on_some (on_some (at p v0) arm_in) (λ a. case_steps c h (cases_rowed e arms f.1) a.0 a.1)) (Some []) m pick refl) in
        subst (λ (x : Block). Counts (steps c h (rowed e t0 x) v0) m) (sym f.2)
        (after_flat t0 f.0 (switch p f.1 stop) v0 (f.3).0 m (f.3).1 there)
    counted (maybe_type t) below p b t0 v0 absent is here of f = some_counted t below p b t0 v0 absent is here f refl
    counted (maybe_type t) below p b t0 v0 (present w) is here of f =
        some_counted t below p b t0 v0 (present w) is here f
        (counted t below [] f.1 t w w refl refl of (own (FollowsBy (IsTurned (layout_of e)) no_subs t) below [] f.1 f.4))
    counted (group_type ts) below p b t0 v0 _ is here of f = absurd of
    counted (items_type k t) below p b t0 v0 _ is here of f = absurd of
    counted (choice_type s arms) below p b t0 v0 _ is here of f = absurd of
    counted (maybe_type t) below p b t0 v0 _ is here of f = absurd of

    fields_counted : (ts : Tys) (vs : Vals) (i : ℕ) (all : Tys) (whole : Vals) (below : ℕ) (p : List ℕ) (b : Block) (t0 : Ty) (v0 : Val)
        → ty_at p t0 ≡ Some (group_type all) → at p v0 ≡ Some (group whole) → AreFrom i all ts → ValuesFrom i whole vs → AreOf ts vs
        → FieldsFollowBy (IsTurned (layout_of e)) no_subs ts i below p b
        → Counts (steps c h (rowed e t0 b) v0) (fields_blocks e ts vs)
    fields_counted no_fields no_more i all whole below p b t0 v0 is here from values of f =
        subst (λ (x : Block). Counts (steps c h (rowed e t0 x) v0) 0) (sym f) refl
    fields_counted (field t ts) (val v vs) i all whole below p b t0 v0 is here from values of f =
        let first = counted t below (p ++ i ∷ []) f.0 t0 v0 v (ty-field p i t0 (group_type all) t is (from-head i all t ts from))
        (at-field p i v0 whole v here (values-head i whole v vs values)) of.0
        (own (FollowsBy (IsTurned (layout_of e)) no_subs t) below (p ++ i ∷ []) f.0 f.3) in
        let rest = fields_counted ts vs (suc i) all whole below p f.1 t0 v0 is here (from-next i all t ts from)
        (values-next i whole v vs values) of.1 f.4 in
        subst (λ (x : Block). Counts (steps c h (rowed e t0 x) v0) (blocks e t v + fields_blocks e ts vs)) (sym f.2)
        (counts_append t0 f.0 f.1 v0 (blocks e t v) (fields_blocks e ts vs) first rest)
    fields_counted no_fields (val v vs) i all whole below p b t0 v0 is here from values of f = absurd of
    fields_counted (field t ts) no_more i all whole below p b t0 v0 is here from values of f = absurd of

    arms_counted : (arms : Arms) (below : ℕ) (cs : Cases) (n : ℤ) (w : Val) → IsOfArm arms n w
        → ArmsFollowBy (IsTurned (layout_of e)) no_subs arms below cs
        → Counts (case_steps c h (cases_rowed e arms cs) n w) (arm_blocks e arms n w)
    arms_counted no_other below cs n w of f = absurd of
    arms_counted (others t) below cs n w of f =
        subst (λ (x : Cases). Counts (case_steps c h (cases_rowed e (others t) x) n w) (blocks e t w)) (sym f.1)
        (counted t below [] f.0 t w w refl refl of (own (FollowsBy (IsTurned (layout_of e)) no_subs t) below [] f.0 f.2))
    arms_counted (arm_type k t arms) below cs n w of f =
        subst (λ (x : Cases). Counts (case_steps c h (cases_rowed e (arm_type k t arms) x) n w) (arm_blocks e (arm_type k t arms) n w))
        (sym f.2)
        (counts_if (int_eq n k) (IsOf t w) (IsOfArm arms n w) (steps c h (rowed e t f.0) w) (case_steps c h (cases_rowed e arms f.1) n w)
        (blocks e t w) (arm_blocks e arms n w) of
        (λ o. counted t below [] f.0 t w w refl refl o (own (FollowsBy (IsTurned (layout_of e)) no_subs t) below [] f.0 f.3))
        (λ o. arms_counted arms below f.1 n w o f.4))

  lead_counts : (t : Ty) (b r : Block) (n : ℕ) (v : Val) (m : ℕ) → lead_length b ≡ Some n → Counts (steps c h (rowed e t r) v) m
      → Counts (steps c h (rowed e t (append b r)) v) m
  lead_counts t stop r n v m f j = j
  lead_counts t (chunk s ps b) r n v m f j =
      let k = mapped (λ k. s + k) (lead_length b) n f in
      counts_then (chunk_steps s ps h v) (steps c h (rowed e t (append b r)) v) m
      (counts_on (filled s ps h v) (λ o. Some (Stored o (length ps) ∷ [])) 0 (λ o. refl)) (lead_counts t b r k.0 v m k.1 j)
  lead_counts t _ r n v m f j = absurd cc

  tail_counts : (t : Ty) (b : Block) (v : Val) → IsTail b → Counts (steps c h (rowed e t b) v) 0
  tail_counts t stop v f = refl
  tail_counts t (patch a s o stop) v f = refl
  tail_counts t _ v f = absurd f

  framed_counts : (t : Ty) (b : Block) (v : Val) → IsFramed e t b → IsOf t v → Counts (steps c h (rowed e t b) v) (blocks e t v)
  framed_counts t b v f of =
      let none : blocks e t v + 0 ≡ blocks e t v = omega arith in
      let inner = counts_append t f.body f.tail v (blocks e t v) 0 (counted t f.below [] f.body t v v refl refl of f.goes)
      (tail_counts t f.tail v f.ends) in
      subst (λ (x : Block). Counts (steps c h (rowed e t x) v) (blocks e t v)) (sym f.whole) (lead_counts t f.lead (append f.body f.tail)
      f.size v (blocks e t v) f.leads (subst (Counts (steps c h (rowed e t (append f.body f.tail)) v)) none inner))

  same_counts : (x y : Steps) (n : ℕ) → SameRows x y → Counts y n → Counts x n
  same_counts None y n j k = tt
  same_counts (Some a) None n j k = absurd j
  same_counts (Some a) (Some b) n j k = sym j ∙ k

  -- as many rows as blocks, whatever is ensured between
  pub row_counts : (t : Ty) (b : Block) (v : Val) → IsFramed e t (unensured b) → IsOf t v
      → Counts (steps c h (rowed e t b) v) (blocks e t v)
  row_counts t b v f of =
      same_counts (steps c h (rowed e t b) v) (steps c h (unensured (rowed e t b)) v) (blocks e t v) (rows_without c h (rowed e t b) v)
      (subst (λ (x : Block). Counts (steps c h x v) (blocks e t v)) (sym (rowed-unensured e b t)) (framed_counts t (unensured b) v f of))
