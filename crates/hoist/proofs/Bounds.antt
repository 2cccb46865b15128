-- A block appends at most its bound, by induction on the block.
use Rattle.std.proofs.Common.{◌≡◌, ℕ, zero, suc, ◌+◌, ◌-◌, ◌*◌, ◌≤◌, max, ℤ, List, [], ◌∷◌, ◌++◌, length, Option, None, Some, refl, ap, subst, arith, Bool, true, false, if◌then◌else◌, MatchBool}
use Rattle.std.specs.Ordering.{int_eq}
use Rattle.std.proofs.lemmas.Bool.Decides.{Decides-int_eq}
use Rattle.mint.specs.declared.kind.Count.{Count}
use Rattle.mint.specs.declared.kind.Count.TheVariants.{Exactly, AtMost, Any}
use Rattle.mint.specs.Types.{Ty, Arms, no_other, others, arm_type}
use Rattle.mint.specs.Typed.{IsOf, IsOfArm, Each}
use Rattle.mint.specs.Values.{Val, Vals, no_more, val, count, arm_in}
use Rattle.wire_def.specs.declared.head.Head.{Head}
use Rattle.wire_def.specs.Scalars.{gap}
use Rattle.cast_stub.specs.declared.put.Put.{Put}
use Rattle.cast_stub.specs.Parts.{on_some, at, elements_in}
use Rattle.cast_stub.specs.Puts.{filled}
use Rattle.cast_stub.specs.Block.{Block, stop, ensure, ensure_row, align, chunk, row_copy, row_swap, row_wide, each, switch, if_there, call, patch, Cases, no_default, default, case}
use Rattle.cast_stub.specs.Steps.{Step, Room, Pad, Stored, Widened, Copied, Patched, Steps, both, over, if_present, Calls, steps, case_steps, chunk_steps, align_steps, is_width}
use Rattle.hoist.specs.Bound.{most, plus, times, greater, bound, cases_bound, appended, Within, BoundsHold}
use Rattle.cast_stub.specs.PartTypes.{element_at, present_at, arms_at}
use Rattle.cast_stub.proofs.Filled.{length-filled}
use Rattle.hoist.proofs.TypedParts.{AreElements, each-part, some-part, switch-part}

pub no_bound : (x : Steps) → Within x None
no_bound None = tt
no_bound (Some ss) = tt

pub no_steps : (n : Option ℕ) → Within None n
no_steps n = tt

nothing : (n : Option ℕ) → Within (Some []) n
nothing None = tt
nothing (Some n) = λ (p : ℕ). omega arith

further : (d p m : ℕ) (b : List Step) (whole : ℕ) → whole ≡ m + appended (p + d + m) b → d + whole ≡ (d + m) + appended (p + (d + m)) b
further d p m b whole e =
    let far : p + d + m ≡ p + (d + m) = omega arith in
    let same : appended (p + d + m) b ≡ appended (p + (d + m)) b = ap (λ (q : ℕ). appended q b) far in
    omega (arith, e, same)

pub appended-append : (p : ℕ) (a b : List Step) → appended p (a ++ b) ≡ appended p a + appended (p + appended p a) b
appended-append p [] b =
    let none : p + 0 ≡ p = omega arith in
    let same : appended (p + 0) b ≡ appended p b = ap (λ (q : ℕ). appended q b) none in
    omega (arith, same)
appended-append p (Room n ∷ a) b = appended-append p a b
appended-append p (Pad x ∷ a) b =
    further (gap p x) p (appended (p + gap p x) a) b (appended (p + gap p x) (a ++ b)) (appended-append (p + gap p x) a b)
appended-append p (Stored o k ∷ a) b =
    further (length o) p (appended (p + length o) a) b (appended (p + length o) (a ++ b)) (appended-append (p + length o) a b)
appended-append p (Widened o k ∷ a) b =
    further (length o) p (appended (p + length o) a) b (appended (p + length o) (a ++ b)) (appended-append (p + length o) a b)
appended-append p (Copied o ∷ a) b =
    further (length o) p (appended (p + length o) a) b (appended (p + length o) (a ++ b)) (appended-append (p + length o) a b)
appended-append p (Patched x s o ∷ a) b = appended-append p a b

within-both : (x y : Steps) (m n : Option ℕ) → Within x m → Within y n → Within (both x y) (plus m n)
within-both None y m n h k = tt
within-both (Some a) None m n h k = tt
within-both (Some a) (Some b) None n h k = tt
within-both (Some a) (Some b) (Some m) None h k = tt
within-both (Some a) (Some b) (Some m) (Some n) h k = λ (p : ℕ). omega (arith, appended-append p a b, h p, k (p + appended p a))

within-more : (x : Steps) (m n : ℕ) → m ≤ n → Within x (Some m) → Within x (Some n)
within-more None m n le h = tt
within-more (Some ss) m n le h = λ (p : ℕ). omega (arith, h p)

pub within-over : (f : Val → Steps) (t : Ty) (n : ℕ) (vs : Vals) → Each (IsOf t) vs → ((w : Val) → IsOf t w → Within (f w) (Some n))
    → Within (over f vs) (Some (count vs * n))
within-over f t n no_more typed go = λ (p : ℕ). omega arith
within-over f t n (val v vs) typed go =
    let sum : n + count vs * n ≡ suc (count vs) * n = omega arith in
    subst (λ (k : ℕ). Within (both (f v) (over f vs)) (Some k)) sum
    (within-both (f v) (over f vs) (Some n) (Some (count vs * n)) (go v typed.0) (within-over f t n vs typed.1 go))

scaled : (a b n : ℕ) → a ≤ b → a * n ≤ b * n
scaled a b n h = grind arith

within-count : (f : Val → Steps) (t : Ty) (c : Count) (n : Option ℕ) (vs : Vals) → AreElements t c vs
    → ((w : Val) → IsOf t w → Within (f w) n)
    → Within (over f vs) (times (most c) n)
within-count f t Any n vs a go = no_bound (over f vs)
within-count f t (Exactly m) None vs a go = no_bound (over f vs)
within-count f t (AtMost m) None vs a go = no_bound (over f vs)
within-count f t (Exactly m) (Some n) vs a go =
    within-more (over f vs) (count vs * n) (m * n) (scaled (count vs) m n (omega (arith, a.allowed))) (within-over f t n vs a.typed go)
within-count f t (AtMost m) (Some n) vs a go =
    within-more (over f vs) (count vs * n) (m * n) (scaled (count vs) m n (omega (arith, a.allowed.0))) (within-over f t n vs a.typed go)

-- ---- over a part

pub within-each : (f : Val → Steps) (g : Ty → Option ℕ) (p : List ℕ) (t : Ty) (v : Val) → IsOf t v
    → ((u : Ty) (w : Val) → IsOf u w → Within (f w) (g u))
    → Within (on_some (on_some (at p v) elements_in) (over f)) (on_some (element_at p t) (λ e. times (most e.1) (g e.0)))
within-each f g p t v h go = by (element_at p t) refl where
  by : (x : Option (Ty × Count)) → element_at p t ≡ x
      → Within (on_some (on_some (at p v) elements_in) (over f)) (on_some x (λ e. times (most e.1) (g e.0)))
  by None e = no_bound (on_some (on_some (at p v) elements_in) (over f))
  by (Some u) e = each-part f p t v u (λ (s : Steps). Within s (times (most u.1) (g u.0))) h e (no_steps (times (most u.1) (g u.0)))
      (λ (vs : Vals) l a. within-count f u.0 u.1 (g u.0) vs a (go u.0))

pub within-some : (f : Val → Steps) (g : Ty → Option ℕ) (p : List ℕ) (t : Ty) (v : Val) → IsOf t v
    → ((u : Ty) (w : Val) → IsOf u w → Within (f w) (g u))
    → Within (on_some (at p v) (if_present f)) (on_some (present_at p t) g)
within-some f g p t v h go = by (present_at p t) refl where
  by : (x : Option Ty) → present_at p t ≡ x → Within (on_some (at p v) (if_present f)) (on_some x g)
  by None e = no_bound (on_some (at p v) (if_present f))
  by (Some u) e = some-part f p t v u (λ (s : Steps). Within s (g u)) h e (no_steps (g u)) (nothing (g u)) (go u)

pub within-switch : (f : ℤ → Val → Steps) (g : Arms → Option ℕ) (p : List ℕ) (t : Ty) (v : Val) → IsOf t v
    → ((arms : Arms) (n : ℤ) (w : Val) → IsOfArm arms n w → Within (f n w) (g arms))
    → Within (on_some (on_some (at p v) arm_in) (λ a. f a.0 a.1)) (on_some (arms_at p t) g)
within-switch f g p t v h go = by (arms_at p t) refl where
  by : (x : Option Arms) → arms_at p t ≡ x → Within (on_some (on_some (at p v) arm_in) (λ a. f a.0 a.1)) (on_some x g)
  by None e = no_bound (on_some (on_some (at p v) arm_in) (λ a. f a.0 a.1))
  by (Some arms) e = switch-part f p t v arms (λ (s : Steps). Within s (g arms)) h e (no_steps (g arms)) (go arms)

pub within-align : (a : ℕ) → Within (align_steps a) (Some (a - 1))
within-align a = pad (is_width a) a refl where
  pad : (b : Bool) (a : ℕ) → is_width a ≡ b → Within (if b then Some (Pad a ∷ []) else None) (Some (a - 1))
  pad false a e = tt
  pad true zero e = absurd cc
  pad true (suc a) e = λ (p : ℕ). omega arith

pub within-chunk : (h : Head) (v : Val) (ps : List Put) (s : ℕ) → Within (chunk_steps s ps h v) (Some s)
within-chunk h v ps s = stored (filled s ps h v) (length-filled h v ps s) where
  stored : (z : Option (List ℕ)) → ((o : List ℕ) → z ≡ Some o → length o ≡ s)
      → Within (on_some z (λ o. Some (Stored o (length ps) ∷ []))) (Some s)
  stored None long = tt
  stored (Some o) long = λ (p : ℕ). omega (arith, long o refl)

within-greater : (x : Steps) (m n : Option ℕ) → Within x m → Within x (greater m n)
within-greater x None n h = no_bound x
within-greater x (Some m) None h = no_bound x
within-greater x (Some m) (Some n) h = within-more x m (max m n) (omega arith) h

within-other : (x : Steps) (m n : Option ℕ) → Within x n → Within x (greater m n)
within-other x None n h = no_bound x
within-other x (Some m) None h = no_bound x
within-other x (Some m) (Some n) h = within-more x n (max m n) (omega arith) h

pub none_more : (m : Option ℕ) → plus (Some 0) m ≡ m
none_more None = refl
none_more (Some n) = let e : 0 + n ≡ n = omega arith in ap (λ (k : ℕ). Some k) e

-- the body of a number, and those after it
pick_case : (q : Bool) (A B : Type 0) (x y : Steps) (m n : Option ℕ) → MatchBool q A B → (A → Within x m) → (B → Within y n)
    → Within (if q then x else y) (greater m n)
pick_case true A B x y m n o f g = within-greater x m n (f o)
pick_case false A B x y m n o f g = within-other y m n (g o)

int_same : (k m : ℤ) → int_eq k m ≡ true → k ≡ m
int_same k m e = (Decides-int_eq k m).0 e

arm_case : (k m n : ℤ) (A B : Type 0) (x y : Steps) (i j : Option ℕ) (z : Bool) → int_eq k m ≡ z → MatchBool (int_eq n k) A B
    → (A → Within x i) → (B → Within y j)
    → Within (if int_eq n m then x else y) (if z then greater i j else None)
arm_case k m n A B x y i j false e o f g = no_bound (if int_eq n m then x else y)
arm_case k m n A B x y i j true e o f g =
    pick_case (int_eq n m) A B x y i j (subst (λ (z : ℤ). MatchBool (int_eq n z) A B) (int_same k m e) o) f g

module _ (c : Calls) (h : Head) where
  mutual
    bounds : (b : Block) (t : Ty) (v : Val) → IsOf t v → Within (steps c h b v) (bound t b)
    bounds stop t v typed = λ (p : ℕ). omega arith
    bounds (ensure n r) t v typed = no_bound (steps c h (ensure n r) v)
    bounds (ensure_row q u e r) t v typed = no_bound (steps c h (ensure_row q u e r) v)
    bounds (align a r) t v typed =
        within-both (align_steps a) (steps c h r v) (Some (a - 1)) (bound t r) (within-align a) (bounds r t v typed)
    bounds (chunk s ps r) t v typed =
        within-both (chunk_steps s ps h v) (steps c h r v) (Some s) (bound t r) (within-chunk h v ps s) (bounds r t v typed)
    bounds (row_copy p r) t v typed = no_bound (steps c h (row_copy p r) v)
    bounds (row_swap p r) t v typed = no_bound (steps c h (row_swap p r) v)
    bounds (row_wide p o r) t v typed = no_bound (steps c h (row_wide p o r) v)
    bounds (each p b r) t v typed =
        within-both (on_some (on_some (at p v) elements_in) (over (steps c h b))) (steps c h r v)
        (on_some (element_at p t) (λ e. times (most e.1) (bound e.0 b))) (bound t r)
        (within-each (steps c h b) (λ u. bound u b) p t v typed (λ u w. bounds b u w)) (bounds r t v typed)
    bounds (switch p cs r) t v typed =
        within-both (on_some (on_some (at p v) arm_in) (λ a. case_steps c h cs a.0 a.1)) (steps c h r v)
        (on_some (arms_at p t) (λ arms. cases_bound arms cs)) (bound t r)
        (within-switch (λ n w. case_steps c h cs n w) (λ arms. cases_bound arms cs) p t v typed (λ arms n w o. case_bounds cs arms n w o))
        (bounds r t v typed)
    bounds (if_there p b r) t v typed =
        within-both (on_some (at p v) (if_present (steps c h b))) (steps c h r v) (on_some (present_at p t) (λ u. bound u b)) (bound t r)
        (within-some (steps c h b) (λ u. bound u b) p t v typed (λ u w. bounds b u w)) (bounds r t v typed)
    bounds (call k p r) t v typed = no_bound (steps c h (call k p r) v)
    bounds (patch a s o r) t v typed = subst (Within (steps c h (patch a s o r) v)) (none_more (bound t r))
        (within-both (Some (Patched a s o ∷ [])) (steps c h r v) (Some 0) (bound t r) (λ (p : ℕ). omega arith) (bounds r t v typed))

    case_bounds : (cs : Cases) (arms : Arms) (n : ℤ) (w : Val) → IsOfArm arms n w → Within (case_steps c h cs n w) (cases_bound arms cs)
    case_bounds no_default arms n w o = no_steps (cases_bound arms no_default)
    case_bounds (default b) no_other n w o = absurd o
    case_bounds (default b) (others t) n w o = bounds b t w o
    case_bounds (default b) (arm_type m t arms) n w o = no_bound (steps c h b w)
    case_bounds (case m b cs) no_other n w o = absurd o
    case_bounds (case m b cs) (others t) n w o = no_bound (case_steps c h (case m b cs) n w)
    case_bounds (case m b cs) (arm_type k t arms) n w o =
        arm_case k m n (IsOf t w) (IsOfArm arms n w) (steps c h b w) (case_steps c h cs n w) (bound t b) (cases_bound arms cs) (int_eq k m)
        refl o (λ o'. bounds b t w o') (λ o'. case_bounds cs arms n w o')

pub bounded : BoundsHold
bounded c h = bounds c h

pub case-bounded : (c : Calls) (h : Head) (cs : Cases) (arms : Arms) (n : ℤ) (w : Val) → IsOfArm arms n w
    → Within (case_steps c h cs n w) (cases_bound arms cs)
case-bounded c h = case_bounds c h
