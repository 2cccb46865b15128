-- The arm that is drawn is the one that is found, by induction on the arms.
use Rattle.std.proofs.Common.{◌≡◌, ℕ, ◌+◌, Bool, true, false, cond, ℤ, List, [], ◌∷◌, map, Option, None, Some, int_eq, refl, sym, ap, ◌∙◌, subst, arith}
use Rattle.mint.specs.Arms.{arm_found}
use Rattle.mint.specs.Sound.{arm_numbers}
use Rattle.mint.specs.Types.{Ty, at, arms_at}
use Rattle.mint.specs.Values.{Val, void, arm, weight}
use Rattle.mint.proofs.Measuring.{numbers_listed}
use Rattle.case_make.specs.declared.maker.Maker.{Maker}
use Rattle.case_make.specs.Draws.{Drawn, drawn_one}
use Rattle.case_make.specs.Made.{drawn, drawn_arm, drawn_tagged}
use Rattle.case_make.specs.Making.{IsMade, IsTooHeavy}

this_or_later : (b : Bool) (i j : ℕ) (rest : Option ℕ) (ts : List Ty) (s : ℕ) (later : Drawn Val) → cond b (Some j) rest ≡ Some i
    → (rest ≡ Some i → later ≡ drawn (at ts i) s) → cond b (drawn (at ts j) s) later ≡ drawn (at ts i) s
this_or_later true i j rest ts s later e h =
    let same : j ≡ i = cc in
    rw same refl
this_or_later false i j rest ts s later e h = h e

pub arm_drawn : (ts : List Ty) (arms : List (ℤ × ℕ)) (o : Option ℕ) (n : ℤ) (i s : ℕ) → arm_found arms o n ≡ Some i
    → drawn_arm (arms_at ts arms o) n s ≡ drawn (at ts i) s
arm_drawn ts [] None n i s e = absurd cc
arm_drawn ts [] (Some m) n i s e =
    let same : m ≡ i = cc in
    rw same refl
arm_drawn ts (a ∷ arms) o n i s e =
    this_or_later (int_eq n a.0) i a.1 (arm_found arms o n) ts s (drawn_arm (arms_at ts arms o) n s) e (arm_drawn ts arms o n i s)

later_none : (b : Bool) (j : ℕ) (rest : Option ℕ) (this later : Drawn Val) (w : Drawn Val) → cond b (Some j) rest ≡ None
    → (rest ≡ None → later ≡ w)
    → cond b this later ≡ w
later_none true j rest this later w e h = absurd cc
later_none false j rest this later w e h = h e

pub none_drawn : (ts : List Ty) (arms : List (ℤ × ℕ)) (o : Option ℕ) (n : ℤ) (s : ℕ) → arm_found arms o n ≡ None
    → drawn_arm (arms_at ts arms o) n s ≡ record { value = void; state = s }
none_drawn ts [] None n s e = refl
none_drawn ts [] (Some m) n s e = absurd cc
none_drawn ts (a ∷ arms) o n s e =
    later_none (int_eq n a.0) a.1 (arm_found arms o n) _ _ _ e (none_drawn ts arms o n s)

-- ---- a union

-- what is known once its number is drawn
pub record Tagged (blank : ℤ) (ns : List ℤ) (old tagged : Maker) (n : ℤ) : Type 0 where
  pub number : n ≡ (drawn_one blank ns old.state).value
  pub state : tagged.state ≡ (drawn_one blank ns old.state).state
  pub left : tagged.left + 1 ≡ old.left

pub tagged_by : (blank : ℤ) (ns : List ℤ) (old weighed tagged : Maker) (n : ℤ) → weighed.left + 1 ≡ old.left → weighed.state ≡ old.state
    → n ≡ (drawn_one blank ns weighed.state).value → tagged.state ≡ (drawn_one blank ns weighed.state).state → tagged.left ≡ weighed.left
    → Tagged blank ns old tagged n
tagged_by blank ns old weighed tagged n less same number state left = record {
  number = number ∙ ap (λ s. (drawn_one blank ns s).value) same;
  state = state ∙ ap (λ s. (drawn_one blank ns s).state) same;
  left = omega (arith, less, left);
}

arm_same : (f : ℤ → ℕ → Drawn Val) (m n : ℤ) (s q : ℕ) → m ≡ n → s ≡ q → f m s ≡ f n q
arm_same f m n s q d e = ap (λ z. f z s) d ∙ ap (f n) e

pub choice_made : (blank : ℤ) (ts : List Ty) (arms : List (ℤ × ℕ)) (o : Option ℕ) (old tagged new : Maker) (n : ℤ) (v w : Val)
    → Tagged blank (map (λ a. a.0) arms) old tagged n → IsMade weight tagged new (drawn_arm (arms_at ts arms o) n tagged.state) v
    → w ≡ arm n v
    → IsMade weight old new (drawn_tagged (drawn_arm (arms_at ts arms o)) (drawn_one blank (arm_numbers (arms_at ts arms o)) old.state)) w
choice_made blank ts arms o old tagged new n v w t m is =
    let d = drawn_one blank (map (λ a. a.0) arms) old.state in
    let same = arm_same (drawn_arm (arms_at ts arms o)) n d.value tagged.state d.state t.number t.state in
    subst
    (λ ns.
    IsMade weight old new (drawn_tagged (drawn_arm (arms_at ts arms o)) (drawn_one blank ns old.state)) w)
    (sym (numbers_listed ts arms o))
    (record {
      value =
          is
          ∙ ap (arm n)
          (m.value ∙ ap (λ z. z.value) same) ∙ ap (λ z. arm z (drawn_arm (arms_at ts arms o) d.value d.state).value) t.number;
      state = m.state ∙ ap (λ z. z.state) same;
      left = omega (arith, ap weight is, m.left, t.left);
    })

pub choice_heavy : (blank : ℤ) (ts : List Ty) (arms : List (ℤ × ℕ)) (o : Option ℕ) (old tagged : Maker) (n : ℤ)
    → Tagged blank (map (λ a. a.0) arms) old tagged n → IsTooHeavy weight tagged (drawn_arm (arms_at ts arms o) n tagged.state)
    → IsTooHeavy weight old (drawn_tagged (drawn_arm (arms_at ts arms o)) (drawn_one blank (arm_numbers (arms_at ts arms o)) old.state))
choice_heavy blank ts arms o old tagged n t h =
    let d = drawn_one blank (map (λ a. a.0) arms) old.state in
    let same =
    ap (λ (z : Drawn Val).
    weight z.value) (arm_same (drawn_arm (arms_at ts arms o)) n d.value tagged.state d.state t.number t.state) in
    subst
    (λ ns.
    IsTooHeavy weight old (drawn_tagged (drawn_arm (arms_at ts arms o)) (drawn_one blank ns old.state)))
    (sym (numbers_listed ts arms o))
    (omega (arith, h, same, t.left))
