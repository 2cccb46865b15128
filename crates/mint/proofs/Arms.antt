-- The arm that is found comes before the node, by induction on the arms.
use Rattle.std.proofs.Common.{◌≡◌, ℕ, ◌<◌, ℤ, List, [], ◌∷◌, Option, None, Some, int_eq, Bool, true, false, cond, get_or, IsTrue, MatchBool, ◌↔◌, refl, sym, true≢false}
use Rattle.mint.specs.Keyed.{place_of}
use Rattle.mint.specs.Typed.{IsOf, IsOfArm}
use Rattle.mint.specs.Types.{Ty, at, arms_at, ArmsBelow, IsBelow}
use Rattle.mint.specs.Values.{Val}
use Rattle.mint.specs.Arms.{arm_found}
use Rattle.mint.proofs.Placing.{Asks, placed, missed}

below_at : (b : Bool) (j : ℕ) (rest : Option ℕ) (k i : ℕ) → cond b (Some j) rest ≡ Some i → j < k → (rest ≡ Some i → i < k) → i < k
below_at true j rest k i e h more =
    let same : j ≡ i = cc in
    rw same at h
below_at false j rest k i e h more = more e

pub arm_below : (arms : List (ℤ × ℕ)) (o : Option ℕ) (n : ℤ) (k i : ℕ) → arm_found arms o n ≡ Some i → ArmsBelow k arms → IsBelow k o
    → i < k
arm_below [] None n k i e h j = absurd cc
arm_below [] (Some m) n k i e h j =
    let same : m ≡ i = cc in
    rw same at j
arm_below (a ∷ arms) o n k i e h j = below_at (int_eq n a.0) a.1 (arm_found arms o n) k i e h.0 (λ f. arm_below arms o n k i f h.1 j)

asks_arm : (o : Option ℕ) (n : ℤ) → Asks n (λ (arms : List (ℤ × ℕ)). arm_found arms o n) (λ a. Some a.1) o
asks_arm o n = record { none = refl; step = λ a arms. refl }

-- the arm at the place of the number
pub arm_placed : (arms : List (ℤ × ℕ)) (o : Option ℕ) (n : ℤ) (i : ℕ) (d : ℤ × ℕ) → Some i ≡ place_of n arms
    → Some (get_or arms i d).1 ≡ arm_found arms o n
arm_placed arms o n i d e = sym (placed n (λ arms. arm_found arms o n) (λ a. Some a.1) o (asks_arm o n) arms i d e)

pub arm_missed : (arms : List (ℤ × ℕ)) (o : Option ℕ) (n : ℤ) → None ≡ place_of n arms → o ≡ arm_found arms o n
arm_missed arms o n e = sym (missed n (λ arms. arm_found arms o n) (λ a. Some a.1) o (asks_arm o n) arms e)

-- a value of the arm that is found
abbrev Found : List Ty → Option ℕ → Val → Type 0
Found ts None v = ⊥
Found ts (Some i) v = IsOf (at ts i) v

found_is : (ts : List Ty) (arms : List (ℤ × ℕ)) (o : Option ℕ) (n : ℤ) (v : Val)
    → Found ts (arm_found arms o n) v ↔ IsOfArm (arms_at ts arms o) n v
found_is ts [] None n v = ((λ h. h), (λ h. h))
found_is ts [] (Some i) n v = ((λ h. h), (λ h. h))
found_is ts (a ∷ arms) o n v = by (int_eq n a.0) (found_is ts arms o n v) where
  by : (t : Bool) → Found ts (arm_found arms o n) v ↔ IsOfArm (arms_at ts arms o) n v
      → Found ts (cond t (Some a.1) (arm_found arms o n)) v ↔ MatchBool t (IsOf (at ts a.1) v) (IsOfArm (arms_at ts arms o) n v)
  by true more = ((λ h. h), (λ h. h))
  by false more = more

-- a value is of the arm of the number where it is of the node that is found
pub arm_is : (ts : List Ty) (arms : List (ℤ × ℕ)) (o : Option ℕ) (n : ℤ) (i : ℕ) (v : Val) (b : Bool) → Some i ≡ arm_found arms o n
    → IsTrue b ↔ IsOf (at ts i) v → IsTrue b ↔ IsOfArm (arms_at ts arms o) n v
arm_is ts arms o n i v b e h =
    let f : Found ts (arm_found arms o n) v ↔ IsOfArm (arms_at ts arms o) n v = found_is ts arms o n v in
    let g : IsOf (at ts i) v ↔ IsOfArm (arms_at ts arms o) n v = rw (← e) at f in
    ((λ t. g.0 (h.0 t)), (λ t. h.1 (g.1 t)))

pub arm_is_not : (ts : List Ty) (arms : List (ℤ × ℕ)) (o : Option ℕ) (n : ℤ) (v : Val) → None ≡ arm_found arms o n
    → IsTrue false ↔ IsOfArm (arms_at ts arms o) n v
arm_is_not ts arms o n v e =
    let f : Found ts (arm_found arms o n) v ↔ IsOfArm (arms_at ts arms o) n v = found_is ts arms o n v in
    let g : ⊥ ↔ IsOfArm (arms_at ts arms o) n v = rw (← e) at f in
    ((λ t. absurd (true≢false (sym t))), (λ t. absurd (g.1 t)))

-- what a choice between arms needs: the arm that is found, or that there is none
pub ruleset arms = (arm_below, arm_is, arm_is_not)
