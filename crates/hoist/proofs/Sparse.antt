-- Hoisted code ensures nothing within a loop over a row or text, by induction on the code.
use Rattle.std.proofs.Common.{◌≡◌, ℕ, ◌-◌, List, Option, None, Some, refl, sym, subst, Bool, true, false, nat_lt, if◌then◌else◌}
use Rattle.std.specs.Ordering.{int_eq}
use Rattle.mint.specs.declared.kind.Count.{Count}
use Rattle.mint.specs.Types.{Ty, items_type, Arms, no_other, others, arm_type}
use Rattle.cast_stub.specs.Parts.{on_some, IsThere}
use Rattle.cast_stub.specs.Block.{Block, stop, align, chunk, each, switch, if_there, patch, Cases, no_default, default, case}
use Rattle.cast_stub.specs.PartTypes.{ty_at, element_at, present_at, arms_at}
use Rattle.cast_stub.specs.Bare.{IsBare, CasesBare, OfItems, IfTyped, RowsAreBare, CasesRowsAreBare}
use Rattle.hoist.specs.Bound.{most, plus, times, greater, bound, cases_bound}
use Rattle.hoist.specs.Hoisted.{nothing, octets, row, Hoisted, closed, Plan, flat, small, loop, apart, enough, beside, settled, Roles, Role, is_small, is_row, is_break, loop_plan, body_plan, turn_bound, each_plan, some_plan, switch_plan, kept, items_in_type, items_at, or_void, or_none, hoisted, cases_hoisted, InType, WhereApart, IsTaken, CasesTaken}
use Rattle.hoist.specs.Laws.{HoistingSparesRows}

-- ---- bounded code is bare

pub parts_there : (a b : Option ℕ) → IsThere (plus a b) → IsThere a × IsThere b
parts_there None b h = absurd h
parts_there (Some m) None h = absurd h
parts_there (Some m) (Some n) h = (tt, tt)

greater_there : (a b : Option ℕ) → IsThere (greater a b) → IsThere a × IsThere b
greater_there None b h = absurd h
greater_there (Some m) None h = absurd h
greater_there (Some m) (Some n) h = (tt, tt)

times_there : (a b : Option ℕ) → IsThere (times a b) → IsThere b
times_there None b h = absurd h
times_there (Some m) None h = absurd h
times_there (Some m) (Some n) h = tt

-- from what is there of an option, where it does not matter what it is
from_on : {A : Type 0} (x : Option A) (f : A → Option ℕ) (G : Type 0) → IsThere (on_some x f) → ((a : A) → IsThere (f a) → G) → G
from_on None f G h go = absurd h
from_on (Some a) f G h go = go a h

from_if : (q : Bool) (x : Option ℕ) → IsThere (if q then x else None) → IsThere x
from_if true x h = h
from_if false x h = absurd h

mutual
  bound_bare : (b : Block) (t : Ty) → IsThere (bound t b) → IsBare b
  bound_bare stop t h = tt
  bound_bare (align a r) t h = bound_bare r t (parts_there (Some (a - 1)) (bound t r) h).1
  bound_bare (chunk s ps r) t h = bound_bare r t (parts_there (Some s) (bound t r) h).1
  bound_bare (patch a s o r) t h = bound_bare r t h
  bound_bare (each p b r) t h =
      let x = on_some (element_at p t) (λ e. times (most e.1) (bound e.0 b)) in
      let k = parts_there x (bound t r) h in (
        from_on (element_at p t) (λ e. times (most e.1) (bound e.0 b)) (IsBare b) k.0
            (λ (e : Ty × Count) j. bound_bare b e.0 (times_there (most e.1) (bound e.0 b) j)),
        bound_bare r t k.1,
      )
  bound_bare (if_there p b r) t h =
      let x = on_some (present_at p t) (λ u. bound u b) in
      let k = parts_there x (bound t r) h in
      (from_on (present_at p t) (λ u. bound u b) (IsBare b) k.0 (λ (u : Ty) j. bound_bare b u j), bound_bare r t k.1)
  bound_bare (switch p cs r) t h =
      let x = on_some (arms_at p t) (λ arms. cases_bound arms cs) in
      let k = parts_there x (bound t r) h in (
        from_on (arms_at p t) (λ arms. cases_bound arms cs) (CasesBare cs) k.0 (λ (arms : Arms) j. cases_bound_bare cs arms j),
        bound_bare r t k.1,
      )
  bound_bare _ t h = absurd h

  cases_bound_bare : (cs : Cases) (arms : Arms) → IsThere (cases_bound arms cs) → CasesBare cs
  cases_bound_bare no_default arms h = tt
  cases_bound_bare (default b) (others t) h = bound_bare b t h
  cases_bound_bare (default b) no_other h = absurd h
  cases_bound_bare (default b) (arm_type n t arms) h = absurd h
  cases_bound_bare (case m b cs) (arm_type n t arms) h =
      let k = greater_there (bound t b) (cases_bound arms cs) (from_if (int_eq n m) (greater (bound t b) (cases_bound arms cs)) h) in
      (bound_bare b t k.0, cases_bound_bare cs arms k.1)
  cases_bound_bare (case m b cs) no_other h = absurd h
  cases_bound_bare (case m b cs) (others t) h = absurd h

-- ---- bare code has bare rows

of_items : (x : Option Ty) (P : Ty → Type 0) (Q : Type 0) → ((u : Ty) → P u) → Q → OfItems x P Q
of_items (Some (items_type c t)) P Q f q = f t
of_items _ P Q f q = q

if_typed : {A : Type 0} (x : Option A) (P : A → Type 0) → ((a : A) → P a) → IfTyped x P
if_typed None P f = tt
if_typed (Some a) P f = f a

mutual
  bare_rows : (b : Block) (t : Ty) → IsBare b → RowsAreBare t b
  bare_rows stop t h = tt
  bare_rows (align a r) t h = bare_rows r t h
  bare_rows (chunk s ps r) t h = bare_rows r t h
  bare_rows (patch a s o r) t h = bare_rows r t h
  bare_rows (each p b r) t h =
      (of_items (ty_at p t) (λ u. RowsAreBare u b) (IsBare b) (λ (u : Ty). bare_rows b u h.0) h.0, bare_rows r t h.1)
  bare_rows (if_there p b r) t h = (if_typed (present_at p t) (λ u. RowsAreBare u b) (λ (u : Ty). bare_rows b u h.0), bare_rows r t h.1)
  bare_rows (switch p cs r) t h =
      (if_typed (arms_at p t) (λ arms. CasesRowsAreBare arms cs) (λ (arms : Arms). bare_cases cs arms h.0), bare_rows r t h.1)
  bare_rows _ t h = absurd h

  bare_cases : (cs : Cases) (arms : Arms) → CasesBare cs → CasesRowsAreBare arms cs
  bare_cases no_default no_other h = tt
  bare_cases no_default (others t) h = tt
  bare_cases no_default (arm_type n t arms) h = tt
  bare_cases (default b) (others t) h = bare_rows b t h
  bare_cases (default b) no_other h = tt
  bare_cases (default b) (arm_type n t arms) h = tt
  bare_cases (case m b cs) (arm_type n t arms) h = (bare_rows b t h.0, bare_cases cs arms h.1)
  bare_cases (case m b cs) no_other h = tt
  bare_cases (case m b cs) (others t) h = tt

-- ---- hoisted code

closed_rows : (x : Hoisted) (t : Ty) → RowsAreBare t x.0 → RowsAreBare t (closed x)
closed_rows (b, nothing) t h = h
closed_rows (b, octets n k) t h = h
closed_rows (b, row p u n) t h = h

settled_rows : (plan : Plan) (x : Hoisted) (t : Ty) → RowsAreBare t x.0 → RowsAreBare t (settled plan x).0
settled_rows (flat n) (b, p) t h = h
settled_rows (small n k) (b, nothing) t h = h
settled_rows (small n k) (b, octets m j) t h = cut (nat_lt enough j) where
  cut : (q : Bool) → RowsAreBare t (beside q n k m j b).0
  cut true = h
  cut false = h
settled_rows (small n k) (b, row p u m) t h = h
settled_rows (loop p u) (b, nothing) t h = h
settled_rows (loop p u) (b, octets m j) t h = h
settled_rows (loop p u) (b, row q w m) t h = h
settled_rows apart x t h = closed_rows x t h

-- a body that is kept is bounded; another is hoisted by itself
loop_rows : {A : Type 0} (role : Role) (n u : Option ℕ) (p : List ℕ) (b b' : A) (Q : A → Type 0) (T : Type 0) → (IsThere n → Q b)
    → (IsThere u → Q b) → (T → Q b') → WhereApart (loop_plan role n u p) T
    → Q (kept (loop_plan role n u p) b b')
loop_rows (is_small k) (Some n) u p b b' Q T f g go taken = f tt
loop_rows (is_small k) None u p b b' Q T f g go taken = go taken
loop_rows is_row n (Some u) p b b' Q T f g go taken = g tt
loop_rows is_row n None p b b' Q T f g go taken = go taken
loop_rows is_break n u p b b' Q T f g go taken = go taken

body_rows : {A : Type 0} (role : Role) (n : Option ℕ) (b b' : A) (Q : A → Type 0) (T : Type 0) → (IsThere n → Q b) → (T → Q b')
    → WhereApart (body_plan role n) T
    → Q (kept (body_plan role n) b b')
body_rows (is_small k) (Some n) b b' Q T f go taken = f tt
body_rows (is_small k) None b b' Q T f go taken = go taken
body_rows is_row n b b' Q T f go taken = go taken
body_rows is_break n b b' Q T f go taken = go taken

-- elements that are hoisted by themselves are those of a list
apart_items : (x : Option Ty) (T : Ty → Type 0) (P : Ty → Block → Type 0) (Q : Block → Type 0) (f : Ty → Block)
    → InType (on_some x items_in_type) T → ((u : Ty) → T u → P u (f u))
    → OfItems x (λ u. P u (f (or_void (on_some x items_in_type)))) (Q (f (or_void (on_some x items_in_type))))
apart_items (Some (items_type c t)) T P Q f taken go = go t taken
apart_items _ T P Q f taken go = absurd taken

pub apart_typed : {A B : Type 0} (x : Option A) (T : A → Type 0) (P : A → B → Type 0) (d : Option A → A) (f : A → B)
    → ((a : A) → d (Some a) ≡ a) → InType x T → ((a : A) → T a → P a (f a))
    → IfTyped x (λ a. P a (f (d x)))
apart_typed None T P d f e taken go = absurd taken
apart_typed (Some a) T P d f e taken go = subst (λ y. P a (f y)) (sym (e a)) (go a taken)

module _ (ro : Roles) where
  mutual
    rows : (b : Block) (t : Ty) → IsTaken ro t b → RowsAreBare t (hoisted ro t b).0
    rows stop t taken = tt
    rows (align a r) t taken = settled_rows (flat (a - 1)) (hoisted ro t r) t (rows r t taken)
    rows (chunk s ps r) t taken = settled_rows (flat s) (hoisted ro t r) t (rows r t taken)
    rows (patch a s o r) t taken = rows r t taken
    rows (each p b r) t taken = (
      loop_rows (ro t p) (on_some (element_at p t) (λ e. times (most e.1) (bound e.0 b))) (turn_bound p t b) p b
          (closed (hoisted ro (or_void (items_at p t)) b))
          (λ (d : Block). OfItems (ty_at p t) (λ u. RowsAreBare u d) (IsBare d)) (InType (items_at p t) (λ u. IsTaken ro u b))
          (λ h. kept_rows p t b (from_on (element_at p t) (λ e. times (most e.1) (bound e.0 b)) (IsBare b) h
          (λ (e : Ty × Count) j. bound_bare b e.0 (times_there (most e.1) (bound e.0 b) j))))
          (λ h. kept_rows p t b (from_on (element_at p t) (λ e. bound e.0 b) (IsBare b) h (λ (e : Ty × Count) j. bound_bare b e.0 j)))
          (λ tk. apart_items (ty_at p t) (λ u. IsTaken ro u b) RowsAreBare IsBare (λ u. closed (hoisted ro u b)) tk
          (λ (u : Ty) k. closed_rows (hoisted ro u b) u (rows b u k)))
          taken.0,
      settled_rows (each_plan ro t p b) (hoisted ro t r) t (rows r t taken.2),
    ) where
      kept_rows : (p : List ℕ) (t : Ty) (b : Block) → IsBare b → OfItems (ty_at p t) (λ u. RowsAreBare u b) (IsBare b)
      kept_rows p t b bare = of_items (ty_at p t) (λ u. RowsAreBare u b) (IsBare b) (λ (u : Ty). bare_rows b u bare) bare
    rows (if_there p b r) t taken = (
      body_rows (ro t p) (on_some (present_at p t) (λ u. bound u b)) b (closed (hoisted ro (or_void (present_at p t)) b))
          (λ (d : Block). IfTyped (present_at p t) (λ u. RowsAreBare u d)) (InType (present_at p t) (λ u. IsTaken ro u b))
          (λ h. if_typed (present_at p t) (λ u. RowsAreBare u b)
          (λ (u : Ty). bare_rows b u (from_on (present_at p t) (λ u. bound u b) (IsBare b) h (λ (u : Ty) j. bound_bare b u j))))
          (λ tk. apart_typed (present_at p t) (λ u. IsTaken ro u b) RowsAreBare or_void (λ u. closed (hoisted ro u b)) (λ a. refl) tk
          (λ (u : Ty) k. closed_rows (hoisted ro u b) u (rows b u k)))
          taken.0,
      settled_rows (some_plan ro t p b) (hoisted ro t r) t (rows r t taken.1),
    )
    rows (switch p cs r) t taken = (
      body_rows (ro t p) (on_some (arms_at p t) (λ arms. cases_bound arms cs)) cs (cases_hoisted ro (or_none (arms_at p t)) cs)
          (λ (d : Cases). IfTyped (arms_at p t) (λ arms. CasesRowsAreBare arms d)) (InType (arms_at p t) (λ arms. CasesTaken ro arms cs))
          (λ h. if_typed (arms_at p t) (λ arms. CasesRowsAreBare arms cs) (λ (arms : Arms). bare_cases cs arms
          (from_on (arms_at p t) (λ arms. cases_bound arms cs) (CasesBare cs) h (λ (a : Arms) j. cases_bound_bare cs a j))))
          (λ tk. apart_typed (arms_at p t) (λ arms. CasesTaken ro arms cs) CasesRowsAreBare or_none (λ arms. cases_hoisted ro arms cs)
          (λ a. refl) tk (λ (arms : Arms) k. cases_rows cs arms k))
          taken.0,
      settled_rows (switch_plan ro t p cs) (hoisted ro t r) t (rows r t taken.1),
    )
    rows _ t taken = absurd taken

    cases_rows : (cs : Cases) (arms : Arms) → CasesTaken ro arms cs → CasesRowsAreBare arms (cases_hoisted ro arms cs)
    cases_rows (default b) (others t) taken = closed_rows (hoisted ro t b) t (rows b t taken)
    cases_rows (case m b cs) (arm_type k t arms) taken = (closed_rows (hoisted ro t b) t (rows b t taken.1), cases_rows cs arms taken.2)
    cases_rows no_default no_other taken = tt
    cases_rows no_default _ taken = absurd taken
    cases_rows (default b) _ taken = absurd taken
    cases_rows (case m b cs) _ taken = absurd taken

pub spares_rows : HoistingSparesRows
spares_rows ro t b taken = closed_rows (hoisted ro t b) t (rows ro b t taken)
