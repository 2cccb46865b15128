-- What is drawn for a sound type is of it, by mutual induction on types, fields and arms.
use Rattle.std.proofs.Common.{◌≡◌, ℕ, zero, suc, ◌<◌, ◌≤◌, Bool, true, false, ◌&&◌, not, cond, MatchBool, nat_le, ℤ, pos, List, [], ◌∷◌, length, get_or, None, refl, ap, ◌∙◌, arith, inl, inr, lt-ltb, le-ltb, int_eq, eqb}
use Rattle.std.specs.List.{list_all}
use Rattle.std.proofs.lemmas.Bool.Decides.{Decides-int_eq}
use Rattle.kit_base.specs.Limits.{heaviest_blank, most_labels}
use Rattle.mint.specs.declared.kind.Kind.TheVariants as kind
use Rattle.mint.specs.Blank.{blank, blank_scalar}
use Rattle.mint.specs.Kinds.{in_range}
use Rattle.mint.specs.Sound.{is_labelled, are_labels, rise_from, are_tagged, are_arms, arm_numbers, is_armless, level_refusal, IsSound, AreSound, ArmsSound}
use Rattle.mint.specs.Types.{Scalar, number, label, Array, text, row_of, Ty, void_type, scalar_type, array_type, group_type, items_type, choice_type, maybe_type, Tys, no_fields, field, Arms, no_other, others, arm_type}
use Rattle.mint.specs.Typed.{is_scalar, IsScalar, has_arm, Each, IsOf, AreOf, IsOfArm, IsWellTyped}
use Rattle.mint.specs.Values.{Val, present, absent, vals_of, weight}
use Rattle.mint.proofs.BlankTyped.{blank_is_of, blank_is_well_typed}
use Rattle.mint.proofs.Fitting.{count-vals_of}
use Rattle.mint.proofs.Measuring.{level_taken, sound_taken}
use Rattle.case_make.specs.Draws.{Drawn, below, next, drawn_as, several, drawn_one, drawn_scalar, drawn_length, drawn_letter, drawn_number}
use Rattle.case_make.specs.Made.{drawn_array, drawn, drawn_fields, drawn_arm, made}
use Rattle.case_make.proofs.Drawing.{below-lt, drawn_in, drawn_letter_in, drawn_allowed, length-several, all_several, all_at, any_at}
use Rattle.std.proofs.lemmas.Bool.{not-false, and_from, not-true, and_parts, cases_lt}

-- ---- scalars

one_label : (ns : List ℤ) (s : ℕ) → are_labels ns ≡ true → is_scalar (label ns) (drawn_one (pos 0) ns s).value ≡ true
one_label [] s h = absurd cc
one_label (n ∷ ns) s h =
    let ranged = and_parts (list_all (in_range kind.I32) (n ∷ ns)) _ h in
    let less = below-lt (length (n ∷ ns)) s (omega arith) in
    let i = below (length (n ∷ ns)) s in
    and_from _ _ (all_at (in_range kind.I32) (n ∷ ns) i (pos 0) ranged.0 less) (any_at (n ∷ ns) i (pos 0) less)

drawn_is_scalar : (a : Scalar) (s : ℕ) → is_labelled a ≡ true → IsScalar a (drawn_scalar a s).value
drawn_is_scalar (number k) s h = drawn_in k s
drawn_is_scalar (label ns) s h = one_label ns s h

-- ---- arrays

drawn_is_array : (a : Array) (s : ℕ) → IsOf (array_type a) (drawn_array a s).value
drawn_is_array (text c) s =
    let d = drawn_length c s in
    let many : length (several drawn_letter d.value d.state).value ≡ d.value = length-several drawn_letter d.value d.state in
    (refl, rw many (drawn_allowed c s), all_several _ drawn_letter drawn_letter_in d.value d.state)
drawn_is_array (row_of k c) s =
    let d = drawn_length c s in
    let many : length (several (drawn_number k) d.value d.state).value ≡ d.value = length-several (drawn_number k) d.value d.state in
    (refl, rw many (drawn_allowed c s), all_several (in_range k) (drawn_number k) (drawn_in k) d.value d.state)

-- ---- discriminants

blank_scalar_is : (a : Scalar) → is_labelled a ≡ true → IsScalar a (blank_scalar a)
blank_scalar_is (number k) h = blank_is_of (scalar_type (number k)) refl
blank_scalar_is (label ns) h = blank_is_of (scalar_type (label ns)) (rw h refl)

tag_is_scalar : (a : Scalar) (ns : List ℤ) (s : ℕ) → is_labelled a ≡ true → list_all (is_scalar a) ns ≡ true
    → IsScalar a (drawn_one (blank_scalar a) ns s).value
tag_is_scalar a [] s h k = blank_scalar_is a h
tag_is_scalar a (n ∷ ns) s h k = all_at (is_scalar a) (n ∷ ns) (below (length (n ∷ ns)) s) (blank_scalar a) k
    (below-lt (length (n ∷ ns)) s (omega arith))

or_later : (b c : Bool) → c ≡ true → cond b true c ≡ true
or_later true c h = refl
or_later false c h = h

arm_at : (arms : Arms) (i : ℕ) (d : ℤ) → i < length (arm_numbers arms) → has_arm arms (get_or (arm_numbers arms) i d) ≡ true
arm_at no_other i d l = absurd (omega arith)
arm_at (others t) i d l = refl
arm_at (arm_type m t arms) zero d l = let same : int_eq m m ≡ true = (Decides-int_eq m m).1 refl in rw same refl
arm_at (arm_type m t arms) (suc i) d l = or_later (int_eq (get_or (arm_numbers arms) i d) m) _ (arm_at arms i d (omega arith))

tag_has_arm : (a : Scalar) (arms : Arms) (s : ℕ) → is_armless arms ≡ false
    → has_arm arms (drawn_one (blank_scalar a) (arm_numbers arms) s).value ≡ true
tag_has_arm a no_other s h = absurd cc
tag_has_arm a (others t) s h = refl
tag_has_arm a (arm_type m t arms) s h =
    let ns = arm_numbers (arm_type m t arms) in
    arm_at (arm_type m t arms) (below (length ns) s) (blank_scalar a) (below-lt (length ns) s (omega arith))

-- what soundness says of a union
record Armed (a : Scalar) (arms : Arms) : Type 0 where
  labelled : is_labelled a ≡ true
  scalars : list_all (is_scalar a) (arm_numbers arms) ≡ true
  some : is_armless arms ≡ false

armed : (a : Scalar) (arms : Arms) → level_refusal (choice_type a arms) ≡ None → Armed a arms
armed a arms h =
    let ns = arm_numbers arms in
    let both =
    and_parts (is_labelled a) (are_arms a arms)
    (not-false (is_labelled a && are_arms a arms) (level_taken (choice_type a arms) h).labelled) in
    let parts = and_parts (are_tagged a ns) (not (is_armless arms)) both.1 in
    let tagged = and_parts (nat_le (length ns) most_labels) (rise_from None ns && list_all (is_scalar a) ns) parts.0 in
    record {
      labelled = both.0;
      scalars = (and_parts (rise_from None ns) (list_all (is_scalar a) ns) tagged.1).1;
      some =
          not-true (is_armless arms) parts.1;
    }

-- ---- types

each_drawn : (t : Ty) (f : ℕ → Drawn Val) → ((s : ℕ) → IsOf t (f s).value) → (n s : ℕ) → Each (IsOf t) (vals_of (several f n s).value)
each_drawn t f h zero s = tt
each_drawn t f h (suc n) s = (h s, each_drawn t f h n (f s).state)

maybe_is : (t : Ty) (b : Bool) (f : Drawn Val) (q : ℕ) → IsOf t f.value
    → IsOf (maybe_type t) (cond b (drawn_as present f) (record { value = absent; state = q })).value
maybe_is t true f q h = h
maybe_is t false f q h = tt

-- the arm of a number, or those after it
arm_or_later : (b : Bool) (t : Ty) (arms : Arms) (n : ℤ) (f g : Drawn Val) → cond b true (has_arm arms n) ≡ true → IsOf t f.value
    → (has_arm arms n ≡ true → IsOfArm arms n g.value) → MatchBool b (IsOf t (cond b f g).value) (IsOfArm arms n (cond b f g).value)
arm_or_later true t arms n f g e h k = h
arm_or_later false t arms n f g e h k = k e

mutual
  pub drawn_is_of : (t : Ty) → IsSound t → (s : ℕ) → IsOf t (drawn t s).value
  drawn_is_of void_type h s = tt
  drawn_is_of (scalar_type a) h s = drawn_is_scalar a s (not-false (is_labelled a) (level_taken (scalar_type a) h).labelled)
  drawn_is_of (array_type a) h s = drawn_is_array a s
  drawn_is_of (group_type ts) h s = drawn_are_of ts h.1 s
  drawn_is_of (items_type c t) h s =
      let d = drawn_length c s in
      let many = count-vals_of (several (drawn t) d.value d.state).value ∙ length-several (drawn t) d.value d.state in
      (rw many (drawn_allowed c s), each_drawn t (drawn t) (drawn_is_of t h.1) d.value d.state)
  drawn_is_of (choice_type a arms) h s =
      let arm = armed a arms h.0 in
      let d = drawn_one (blank_scalar a) (arm_numbers arms) s in
      (tag_is_scalar a (arm_numbers arms) s arm.labelled arm.scalars, arm_is_of arms h.1 d.value d.state (tag_has_arm a arms s arm.some))
  drawn_is_of (maybe_type t) h s = maybe_is t (eqb (below 2 s) 1) (drawn t (next s)) (next s) (drawn_is_of t h.1 (next s))

  drawn_are_of : (ts : Tys) → AreSound ts → (s : ℕ) → AreOf ts (vals_of (drawn_fields ts s).value)
  drawn_are_of no_fields h s = tt
  drawn_are_of (field t ts) h s = (drawn_is_of t h.0 s, drawn_are_of ts h.1 (drawn t s).state)

  arm_is_of : (arms : Arms) → ArmsSound arms → (n : ℤ) (s : ℕ) → has_arm arms n ≡ true → IsOfArm arms n (drawn_arm arms n s).value
  arm_is_of no_other h n s e = absurd cc
  arm_is_of (others t) h n s e = drawn_is_of t h s
  arm_is_of (arm_type m t arms) h n s e =
      arm_or_later (int_eq n m) t arms n (drawn t s) (drawn_arm arms n s) e (drawn_is_of t h.0 s) (arm_is_of arms h.1 n s)

-- ---- what is made

pub made_light : (t : Ty) (s : ℕ) → weight (drawn t s).value ≤ heaviest_blank → made t s ≡ (drawn t s).value
made_light t s h = ap (λ b. cond b (blank t) (drawn t s).value) (le-ltb heaviest_blank (weight (drawn t s).value) h)

pub made_heavy : (t : Ty) (s : ℕ) → heaviest_blank < weight (drawn t s).value → made t s ≡ blank t
made_heavy t s h = ap (λ b. cond b (blank t) (drawn t s).value) (lt-ltb heaviest_blank (weight (drawn t s).value) h)

-- a value that is made is well typed, and as light as a blank value
pub made_is : (t : Ty) → IsSound t → (s : ℕ) → IsWellTyped t (made t s) × (weight (made t s) ≤ heaviest_blank)
made_is t h s = elim (cases_lt heaviest_blank (weight (drawn t s).value)) [
  | inl l ↦ rw (made_heavy t s l) (blank_is_well_typed t h, (sound_taken t h).light)
  | inr g ↦ rw (made_light t s g) (record { is_of = drawn_is_of t h s; light = omega arith }, g)
]
