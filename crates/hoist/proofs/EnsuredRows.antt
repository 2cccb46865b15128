-- Hoisted code ensures each big row by the length of its list, by induction on the code.
use Rattle.std.proofs.Common.{◌≡◌, ℕ, zero, suc, ◌-◌, List, Option, None, Some, refl, sym, subst, Bool, true, false, nat_lt}
use Rattle.mint.specs.Types.{Ty, Arms, no_other, others, arm_type}
use Rattle.cast_stub.specs.Parts.{on_some, IsThere}
use Rattle.cast_stub.specs.Block.{Block, stop, align, chunk, each, switch, if_there, patch, Cases, no_default, default, case}
use Rattle.cast_stub.specs.PartTypes.{element_at, present_at, arms_at}
use Rattle.cast_stub.specs.Bare.{IfTyped}
use Rattle.hoist.specs.Bound.{most, times, bound, cases_bound}
use Rattle.hoist.specs.Hoisted.{Pending, nothing, octets, row, raised, Hoisted, closed, flat, small, loop, enough, beside, settled, Role, is_small, is_row, is_break, Roles, loop_plan, body_plan, turn_bound, kept, items_at, or_void, or_none, hoisted, cases_hoisted, InType, IfRow, WhereApart, IsTaken, CasesTaken}
use Rattle.hoist.specs.Rows.{IfBreak, RowsEnsured, CasesRowsEnsured}
use Rattle.hoist.specs.Laws.{HoistingEnsuresRows}
use Rattle.hoist.proofs.Sparse.{apart_typed}

-- the list that is ensured before
abbrev list_of : Pending → Option (List ℕ)
list_of (row p u n) = Some p
list_of _ = None

raised_list : (n : ℕ) (x : Pending) → list_of (raised n x) ≡ list_of x
raised_list zero nothing = refl
raised_list (suc n) nothing = refl
raised_list n (octets m k) = refl
raised_list n (row p u m) = refl

-- ---- plans

-- the loop over a row comes after the ensure of its list
loop_list : (role : Role) (n u : Option ℕ) (p : List ℕ) (x : Hoisted) → IfRow role (IsThere u)
    → IfRow role (list_of (settled (loop_plan role n u p) x).1 ≡ Some p)
loop_list is_row n (Some u) p (c, nothing) h = refl
loop_list is_row n (Some u) p (c, octets m k) h = refl
loop_list is_row n (Some u) p (c, row q w m) h = refl
loop_list is_row n None p x h = absurd h
loop_list (is_small k) n u p x h = tt
loop_list is_break n u p x h = tt

loop_body : {A : Type 0} (role : Role) (n u : Option ℕ) (p : List ℕ) (b b' : A) (Q : A → Type 0) (T : Type 0) → (T → Q b')
    → WhereApart (loop_plan role n u p) T
    → IfBreak role (Q (kept (loop_plan role n u p) b b'))
loop_body is_break n u p b b' Q T go taken = go taken
loop_body is_row n u p b b' Q T go taken = tt
loop_body (is_small k) n u p b b' Q T go taken = tt

other_body : {A : Type 0} (role : Role) (n : Option ℕ) (b b' : A) (Q : A → Type 0) (T : Type 0) → (T → Q b')
    → WhereApart (body_plan role n) T
    → IfBreak role (Q (kept (body_plan role n) b b'))
other_body is_break n b b' Q T go taken = go taken
other_body is_row n b b' Q T go taken = tt
other_body (is_small k) n b b' Q T go taken = tt

module _ (ro : Roles) where
  -- code, with what is to be ensured before it
  abbrev Good : Ty → Hoisted → Type 0
  Good t x = RowsEnsured ro t (list_of x.1) x.0

  closed_good : (t : Ty) (x : Hoisted) → Good t x → RowsEnsured ro t None (closed x)
  closed_good t (c, nothing) h = h
  closed_good t (c, octets n k) h = h
  closed_good t (c, row p u n) h = h

  flat_good : (t : Ty) (n : ℕ) (x : Hoisted) → Good t x → Good t (settled (flat n) x)
  flat_good t n (c, p) h = subst (λ (l : Option (List ℕ)). RowsEnsured ro t l c) (sym (raised_list n p)) h

  small_good : (t : Ty) (n k : ℕ) (x : Hoisted) → Good t x → RowsEnsured ro t None (settled (small n k) x).0
  small_good t n k (c, nothing) h = h
  small_good t n k (c, octets m j) h = cut (nat_lt enough j) where
    cut : (q : Bool) → RowsEnsured ro t None (beside q n k m j c).0
    cut true = h
    cut false = h
  small_good t n k (c, row q w m) h = h

  row_good : (t : Ty) (p : List ℕ) (u : ℕ) (x : Hoisted) → Good t x → RowsEnsured ro t None (settled (loop p u) x).0
  row_good t p u (c, nothing) h = h
  row_good t p u (c, octets m j) h = h
  row_good t p u (c, row q w m) h = h

  loop_good : (t : Ty) (role : Role) (n u : Option ℕ) (p : List ℕ) (x : Hoisted) → Good t x
      → RowsEnsured ro t None (settled (loop_plan role n u p) x).0
  loop_good t (is_small k) (Some n) u p x h = small_good t n k x h
  loop_good t (is_small k) None u p x h = closed_good t x h
  loop_good t is_row n (Some u) p x h = row_good t p u x h
  loop_good t is_row n None p x h = closed_good t x h
  loop_good t is_break n u p x h = closed_good t x h

  other_good : (t : Ty) (role : Role) (n : Option ℕ) (x : Hoisted) → Good t x → RowsEnsured ro t None (settled (body_plan role n) x).0
  other_good t (is_small k) (Some n) x h = small_good t n k x h
  other_good t (is_small k) None x h = closed_good t x h
  other_good t is_row n x h = closed_good t x h
  other_good t is_break n x h = closed_good t x h

  -- ---- all operations

  mutual
    good : (b : Block) (t : Ty) → IsTaken ro t b → Good t (hoisted ro t b)
    good stop t taken = tt
    good (align a r) t taken = flat_good t (a - 1) (hoisted ro t r) (good r t taken)
    good (chunk s ps r) t taken = flat_good t s (hoisted ro t r) (good r t taken)
    good (patch a s o r) t taken = good r t taken
    good (each p b r) t taken =
        let n = on_some (element_at p t) (λ e. times (most e.1) (bound e.0 b)) in (
          loop_list (ro t p) n (turn_bound p t b) p (hoisted ro t r) taken.1,
          loop_body (ro t p) n (turn_bound p t b) p b (closed (hoisted ro (or_void (items_at p t)) b))
              (λ (d : Block). IfTyped (items_at p t) (λ u. RowsEnsured ro u None d)) (InType (items_at p t) (λ u. IsTaken ro u b))
              (λ tk. apart_typed (items_at p t) (λ u. IsTaken ro u b) (λ u d. RowsEnsured ro u None d) or_void
              (λ u. closed (hoisted ro u b)) (λ a. refl) tk (λ (u : Ty) k. closed_good u (hoisted ro u b) (good b u k)))
              taken.0,
          loop_good t (ro t p) n (turn_bound p t b) p (hoisted ro t r) (good r t taken.2),
        )
    good (if_there p b r) t taken = (
      other_body (ro t p) (on_some (present_at p t) (λ u. bound u b)) b (closed (hoisted ro (or_void (present_at p t)) b))
          (λ (d : Block). IfTyped (present_at p t) (λ u. RowsEnsured ro u None d)) (InType (present_at p t) (λ u. IsTaken ro u b))
          (λ tk. apart_typed (present_at p t) (λ u. IsTaken ro u b) (λ u d. RowsEnsured ro u None d) or_void (λ u. closed (hoisted ro u b))
          (λ a. refl) tk (λ (u : Ty) k. closed_good u (hoisted ro u b) (good b u k)))
          taken.0,
      other_good t (ro t p) (on_some (present_at p t) (λ u. bound u b)) (hoisted ro t r) (good r t taken.1),
    )
    good (switch p cs r) t taken = (
      other_body (ro t p) (on_some (arms_at p t) (λ arms. cases_bound arms cs)) cs (cases_hoisted ro (or_none (arms_at p t)) cs)
          (λ (d : Cases). IfTyped (arms_at p t) (λ arms. CasesRowsEnsured ro arms d)) (InType (arms_at p t) (λ arms. CasesTaken ro arms cs))
          (λ tk. apart_typed (arms_at p t) (λ arms. CasesTaken ro arms cs) (λ arms d. CasesRowsEnsured ro arms d) or_none
          (λ arms. cases_hoisted ro arms cs) (λ a. refl) tk (λ (arms : Arms) k. cases_good cs arms k))
          taken.0,
      other_good t (ro t p) (on_some (arms_at p t) (λ arms. cases_bound arms cs)) (hoisted ro t r) (good r t taken.1),
    )
    good _ t taken = absurd taken

    cases_good : (cs : Cases) (arms : Arms) → CasesTaken ro arms cs → CasesRowsEnsured ro arms (cases_hoisted ro arms cs)
    cases_good (default b) (others t) taken = closed_good t (hoisted ro t b) (good b t taken)
    cases_good (case m b cs) (arm_type k t arms) taken = (closed_good t (hoisted ro t b) (good b t taken.1), cases_good cs arms taken.2)
    cases_good no_default no_other taken = tt
    cases_good no_default _ taken = absurd taken
    cases_good (default b) _ taken = absurd taken
    cases_good (case m b cs) _ taken = absurd taken

pub ensures_rows : HoistingEnsuresRows
ensures_rows ro t b taken = closed_good ro t (hoisted ro t b) (good ro b t taken)
