-- Hoisted code has room for all that it appends, by induction on the code.
use Rattle.std.proofs.Common.{◌≡◌, ℕ, zero, suc, ◌+◌, ◌-◌, ℤ, List, [], ◌∷◌, Option, None, Some, refl, sym, ap, subst, ◌∙◌, arith, Bool, true, false, nat_lt, if◌then◌else◌, MatchBool}
use Rattle.std.specs.Ordering.{int_eq}
use Rattle.mint.specs.declared.kind.Count.{Count}
use Rattle.mint.specs.Types.{Ty, items_type, Arms, no_other, others, arm_type}
use Rattle.mint.specs.Typed.{IsOf, IsOfArm}
use Rattle.mint.specs.Values.{Val, Vals, arm_in}
use Rattle.wire_def.specs.declared.head.Head.{Head}
use Rattle.cast_stub.specs.Parts.{on_some, at, elements_in}
use Rattle.cast_stub.specs.Block.{Block, stop, ensure, ensure_row, align, chunk, each, switch, if_there, patch, Cases, no_default, default, case}
use Rattle.cast_stub.specs.Steps.{Patched, Steps, both, over, if_present, Calls, steps, case_steps, chunk_steps, align_steps}
use Rattle.cast_stub.specs.PartTypes.{ty_at, element_at, present_at, arms_at, elements_type}
use Rattle.hoist.specs.Bound.{most, times, bound, cases_bound, Within}
use Rattle.hoist.specs.Hoisted.{Pending, nothing, octets, row, Hoisted, some_octets, closed, Plan, flat, small, loop, apart, enough, beside, settled, Role, is_small, is_row, is_break, Roles, loop_plan, body_plan, each_plan, some_plan, switch_plan, kept, items_in_type, items_at, or_void, or_none, hoisted, cases_hoisted, InType, WhereApart, IsTaken, CasesTaken}
use Rattle.hoist.specs.Laws.{HoistingCovers}
use Rattle.hoist.proofs.TypedParts.{length_at, each-part, some-part, switch-part}
use Rattle.hoist.proofs.Bounds.{bounded, within-each, within-some, within-switch, within-align, within-chunk, within-over, case-bounded, no_steps}
use Rattle.hoist.proofs.Rooms.{times_or, Rooms, no_rooms, rooms_none, rooms_more, rooms_first, rooms_after, rooms_ensured, rooms_row, rooms-over}
use Rattle.cast_stub.proofs.Filled.{opened}

-- the room that the code needs before it
abbrev pub want : Pending → Val → ℕ
want nothing v = 0
want (octets n k) v = n
want (row p u n) v = times_or (length_at p v) u + n

want-some : (n k : ℕ) (v : Val) → want (some_octets n k) v ≡ n
want-some zero k v = refl
want-some (suc n) k v = refl

-- what is known of an operation's own steps
abbrev Fits : Plan → Steps → Val → Type 0
Fits (flat n) own v = Within own (Some n)
Fits (small n k) own v = Within own (Some n)
Fits (loop p u) own v = Within own (Some (times_or (length_at p v) u))
Fits apart own v = Rooms own 0

module _ (c : Calls) (h : Head) where
  closed_good : (x : Hoisted) (v : Val) → Rooms (steps c h x.0 v) (want x.1 v) → Rooms (steps c h (closed x) v) 0
  closed_good (b, nothing) v r = r
  closed_good (b, octets n k) v r = rooms_ensured n (steps c h b v) r
  closed_good (b, row p u n) v r = rooms_row (length_at p v) u n (steps c h b v) r

  -- so many octets more before code that needs none
  some_good : (own y : Steps) (n k : ℕ) (v : Val) → Within own (Some n) → Rooms y 0 → Rooms (both own y) (want (some_octets n k) v)
  some_good own y n k v w r =
      rooms_more (both own y) (0 + n) (want (some_octets n k) v) (omega (arith, want-some n k v)) (rooms_first own y n 0 w r)

  -- an operation comes first
  settled_good : (plan : Plan) (own : Steps) (x : Hoisted) (v : Val) → Fits plan own v → Rooms (steps c h x.0 v) (want x.1 v)
      → Rooms (both own (steps c h (settled plan x).0 v)) (want (settled plan x).1 v)
  settled_good (flat n) own (b, nothing) v w r = some_good own (steps c h b v) n 0 v w r
  settled_good (flat n) own (b, octets m k) v w r = rooms_first own (steps c h b v) n m w r
  settled_good (flat n) own (b, row p u m) v w r =
      rooms_more (both own (steps c h b v)) (times_or (length_at p v) u + m + n) (times_or (length_at p v) u + (m + n)) (omega arith)
      (rooms_first own (steps c h b v) n (times_or (length_at p v) u + m) w r)
  settled_good (small n k) own (b, nothing) v w r = some_good own (steps c h b v) n k v w r
  settled_good (small n k) own (b, octets m j) v w r = cut (nat_lt enough j) where
    cut : (z : Bool) → Rooms (both own (steps c h (beside z n k m j b).0 v)) (want (beside z n k m j b).1 v)
    cut true = some_good own (steps c h (ensure m b) v) n k v w (closed_good (b, octets m j) v r)
    cut false = rooms_first own (steps c h b v) n m w r
  settled_good (small n k) own (b, row q u m) v w r =
      some_good own (steps c h (ensure_row q u m b) v) n k v w (closed_good (b, row q u m) v r)
  settled_good (loop p u) own (b, nothing) v w r =
      let k = times_or (length_at p v) u in
      rooms_more (both own (steps c h b v)) (0 + k) (k + 0) (omega arith) (rooms_first own (steps c h b v) k 0 w r)
  settled_good (loop p u) own (b, octets m j) v w r =
      let k = times_or (length_at p v) u in
      rooms_more (both own (steps c h b v)) (m + k) (k + m) (omega arith) (rooms_first own (steps c h b v) k m w r)
  settled_good (loop p u) own (b, row q u' m) v w r =
      let k = times_or (length_at p v) u in
      rooms_more (both own (steps c h (ensure_row q u' m b) v)) (0 + k) (k + 0) (omega arith)
      (rooms_first own (steps c h (ensure_row q u' m b) v) k 0 w (closed_good (b, row q u' m) v r))
  settled_good apart own x v w r = rooms_after own (steps c h (closed x) v) 0 w (closed_good x v r)

-- ---- what the plans rest on

loop_fits : {A : Type 0} (O : A → Steps) (role : Role) (n u : Option ℕ) (p : List ℕ) (b b' : A) (v : Val) (T : Type 0) → Within (O b) n
    → ((k : ℕ) → u ≡ Some k → Within (O b) (Some (times_or (length_at p v) k))) → (T → Rooms (O b') 0) → WhereApart (loop_plan role n u p) T
    → Fits (loop_plan role n u p) (O (kept (loop_plan role n u p) b b')) v
loop_fits O (is_small k) (Some n) u p b b' v T within wide go taken = within
loop_fits O (is_small k) None u p b b' v T within wide go taken = go taken
loop_fits O is_row n (Some u) p b b' v T within wide go taken = wide u refl
loop_fits O is_row n None p b b' v T within wide go taken = go taken
loop_fits O is_break n u p b b' v T within wide go taken = go taken

body_fits : {A : Type 0} (O : A → Steps) (role : Role) (n : Option ℕ) (b b' : A) (v : Val) (T : Type 0) → Within (O b) n
    → (T → Rooms (O b') 0) → WhereApart (body_plan role n) T → Fits (body_plan role n) (O (kept (body_plan role n) b b')) v
body_fits O (is_small k) (Some n) b b' v T within go taken = within
body_fits O (is_small k) None b b' v T within go taken = go taken
body_fits O is_row n b b' v T within go taken = go taken
body_fits O is_break n b b' v T within go taken = go taken

big-within : (f : Val → Steps) (g : Ty → Option ℕ) (p : List ℕ) (t : Ty) (v : Val) (u : ℕ) → IsOf t v
    → on_some (element_at p t) (λ e. g e.0) ≡ Some u → ((t : Ty) (w : Val) → IsOf t w → Within (f w) (g t))
    → Within (on_some (on_some (at p v) elements_in) (over f)) (Some (times_or (length_at p v) u))
big-within f g p t v u h is go =
    let e = opened (element_at p t) (λ (x : Ty × Count). g x.0) u is in
    each-part f p t v e.0 (λ (s : Steps). Within s (Some (times_or (length_at p v) u))) h e.1 (no_steps (Some (times_or (length_at p v) u)))
    (λ (vs : Vals) long a. subst (λ (z : Option ℕ). Within (over f vs) (Some (times_or z u))) (sym long)
    (within-over f (e.0).0 u vs a.typed (λ (x : Val) o. subst (Within (f x)) e.2 (go (e.0).0 x o))))

abbrev pair : Ty → Count → Ty × Count
pair t n = (t, n)

items-elements : (m u : Ty) → items_in_type m ≡ Some u → (n : Count) × (elements_type m ≡ Some (pair u n))
items-elements (items_type n t) u e = let s : t ≡ u = cc in (n, ap (λ (x : Ty). Some (pair x n)) s)
items-elements _ u e = absurd cc

apart_each : (f : Ty → Val → Steps) (T : Ty → Type 0) (p : List ℕ) (t : Ty) (v : Val) (x : Option Ty) → IsOf t v → items_at p t ≡ x
    → InType x T → ((u : Ty) (w : Val) → T u → IsOf u w → Rooms (f u w) 0)
    → Rooms (on_some (on_some (at p v) elements_in) (over (f (or_void x)))) 0
apart_each f T p t v None h is taken go = absurd taken
apart_each f T p t v (Some u) h is taken go =
    let m = opened (ty_at p t) items_in_type u is in
    let n = items-elements m.0 u m.2 in
    let e : element_at p t ≡ Some (pair u n.0) = ap (λ (z : Option Ty). on_some z elements_type) m.1 ∙ n.1 in
    each-part (f u) p t v (pair u n.0) (λ (s : Steps). Rooms s 0) h e (no_rooms 0)
    (λ (vs : Vals) long a. rooms-over (f u) u vs a.typed (λ (w : Val) o. go u w taken o))

apart_some : (f : Ty → Val → Steps) (T : Ty → Type 0) (p : List ℕ) (t : Ty) (v : Val) (x : Option Ty) → IsOf t v → present_at p t ≡ x
    → InType x T → ((u : Ty) (w : Val) → T u → IsOf u w → Rooms (f u w) 0)
    → Rooms (on_some (at p v) (if_present (f (or_void x)))) 0
apart_some f T p t v None h is taken go = absurd taken
apart_some f T p t v (Some u) h is taken go =
    some-part (f u) p t v u (λ (s : Steps). Rooms s 0) h is (no_rooms 0) (rooms_none 0) (λ (w : Val) o. go u w taken o)

apart_switch : (f : Arms → ℤ → Val → Steps) (T : Arms → Type 0) (p : List ℕ) (t : Ty) (v : Val) (x : Option Arms) → IsOf t v
    → arms_at p t ≡ x → InType x T → ((arms : Arms) (n : ℤ) (w : Val) → T arms → IsOfArm arms n w → Rooms (f arms n w) 0)
    → Rooms (on_some (on_some (at p v) arm_in) (λ a. f (or_none x) a.0 a.1)) 0
apart_switch f T p t v None h is taken go = absurd taken
apart_switch f T p t v (Some arms) h is taken go =
    switch-part (f arms) p t v arms (λ (s : Steps). Rooms s 0) h is (no_rooms 0) (λ (n : ℤ) (w : Val) o. go arms n w taken o)

arm_rooms : (q : Bool) (A B : Type 0) (x y : Steps) → MatchBool q A B → (A → Rooms x 0) → (B → Rooms y 0) → Rooms (if q then x else y) 0
arm_rooms true A B x y o f g = f o
arm_rooms false A B x y o f g = g o

-- ---- all operations

module _ (c : Calls) (h : Head) (ro : Roles) where
  mutual
    good : (b : Block) (t : Ty) (v : Val) → IsTaken ro t b → IsOf t v → Rooms (steps c h (hoisted ro t b).0 v) (want (hoisted ro t b).1 v)
    good stop t v taken typed = rooms_none 0
    good (align a r) t v taken typed =
        settled_good c h (flat (a - 1)) (align_steps a) (hoisted ro t r) v (within-align a) (good r t v taken typed)
    good (chunk s ps r) t v taken typed =
        settled_good c h (flat s) (chunk_steps s ps h v) (hoisted ro t r) v (within-chunk h v ps s) (good r t v taken typed)
    good (patch a s o r) t v taken typed =
        rooms_more (both (Some (Patched a s o ∷ [])) (steps c h (hoisted ro t r).0 v)) (want (hoisted ro t r).1 v + 0)
        (want (hoisted ro t r).1 v) (omega arith)
        (rooms_first (Some (Patched a s o ∷ [])) (steps c h (hoisted ro t r).0 v) 0 (want (hoisted ro t r).1 v) (λ (p : ℕ). omega arith)
        (good r t v taken typed))
    good (each p b r) t v taken typed =
        settled_good c h (each_plan ro t p b) (on_some (on_some (at p v) elements_in)
        (over (steps c h (kept (each_plan ro t p b) b (closed (hoisted ro (or_void (items_at p t)) b)))))) (hoisted ro t r) v
        (loop_fits (λ (d : Block). on_some (on_some (at p v) elements_in) (over (steps c h d))) (ro t p)
        (on_some (element_at p t) (λ e. times (most e.1) (bound e.0 b))) (on_some (element_at p t) (λ e. bound e.0 b)) p b
        (closed (hoisted ro (or_void (items_at p t)) b)) v
        (InType (items_at p t) (λ u. IsTaken ro u b))
        (within-each (steps c h b) (λ u. bound u b) p t v typed (λ u w. bounded c h b u w))
        (λ (k : ℕ) is. big-within (steps c h b) (λ u. bound u b) p t v k typed is (λ u w. bounded c h b u w))
        (λ tk. apart_each (λ u w. steps c h (closed (hoisted ro u b)) w) (λ u. IsTaken ro u b) p t v (items_at p t) typed refl tk
        (λ (u : Ty) (w : Val) tk' o. closed_good c h (hoisted ro u b) w (good b u w tk' o)))
        taken.0)
        (good r t v taken.2 typed)
    good (if_there p b r) t v taken typed =
        settled_good c h (some_plan ro t p b)
        (on_some (at p v) (if_present (steps c h (kept (some_plan ro t p b) b (closed (hoisted ro (or_void (present_at p t)) b))))))
        (hoisted ro t r) v
        (body_fits (λ (d : Block). on_some (at p v) (if_present (steps c h d))) (ro t p) (on_some (present_at p t) (λ u. bound u b)) b
        (closed (hoisted ro (or_void (present_at p t)) b)) v
        (InType (present_at p t) (λ u. IsTaken ro u b))
        (within-some (steps c h b) (λ u. bound u b) p t v typed (λ u w. bounded c h b u w))
        (λ tk. apart_some (λ u w. steps c h (closed (hoisted ro u b)) w) (λ u. IsTaken ro u b) p t v (present_at p t) typed refl tk
        (λ (u : Ty) (w : Val) tk' o. closed_good c h (hoisted ro u b) w (good b u w tk' o)))
        taken.0)
        (good r t v taken.1 typed)
    good (switch p cs r) t v taken typed =
        settled_good c h (switch_plan ro t p cs) (on_some (on_some (at p v) arm_in)
        (λ a. case_steps c h (kept (switch_plan ro t p cs) cs (cases_hoisted ro (or_none (arms_at p t)) cs)) a.0 a.1)) (hoisted ro t r) v
        (body_fits (λ (d : Cases). on_some (on_some (at p v) arm_in) (λ a. case_steps c h d a.0 a.1)) (ro t p)
        (on_some (arms_at p t) (λ arms. cases_bound arms cs)) cs (cases_hoisted ro (or_none (arms_at p t)) cs) v
        (InType (arms_at p t) (λ arms. CasesTaken ro arms cs))
        (within-switch (λ n w. case_steps c h cs n w) (λ arms. cases_bound arms cs) p t v typed
        (λ arms n w o. case-bounded c h cs arms n w o))
        (λ tk. apart_switch (λ arms n w. case_steps c h (cases_hoisted ro arms cs) n w) (λ arms. CasesTaken ro arms cs) p t v (arms_at p t)
        typed refl tk (λ (arms : Arms) (n : ℤ) (w : Val) tk' o. case_good cs arms n w tk' o))
        taken.0)
        (good r t v taken.1 typed)
    good _ t v taken typed = absurd taken

    case_good : (cs : Cases) (arms : Arms) (n : ℤ) (w : Val) → CasesTaken ro arms cs → IsOfArm arms n w
        → Rooms (case_steps c h (cases_hoisted ro arms cs) n w) 0
    case_good (default b) (others t) n w taken o = closed_good c h (hoisted ro t b) w (good b t w taken o)
    case_good (case m b cs) (arm_type k t arms) n w taken o =
        arm_rooms (int_eq n m) (IsOf t w) (IsOfArm arms n w) (steps c h (closed (hoisted ro t b)) w)
        (case_steps c h (cases_hoisted ro arms cs) n w)
        (subst (λ (z : ℤ). MatchBool (int_eq n z) (IsOf t w) (IsOfArm arms n w)) taken.0 o)
        (λ o'. closed_good c h (hoisted ro t b) w (good b t w taken.1 o')) (λ o'. case_good cs arms n w taken.2 o')
    case_good no_default no_other n w taken o = absurd o
    case_good no_default _ n w taken o = absurd taken
    case_good (default b) _ n w taken o = absurd taken
    case_good (case m b cs) _ n w taken o = absurd taken

pub covers : HoistingCovers
covers ro c h t b v ss p taken typed e = closed_good c h (hoisted ro t b) v (good c h ro b t v taken typed) ss e p 0 (omega arith)
