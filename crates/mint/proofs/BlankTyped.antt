-- The blank value of a sound type is well typed, by mutual induction on types, fields and arms.
use Rattle.std.proofs.Common.{◌≡◌, Bool, true, false, ◌&&◌, not, nat_le, ℕ, zero, suc, ℤ, pos, List, [], ◌∷◌, length, replicate, None, refl, ap, arith}
use Rattle.std.specs.List.{list_all}
use Rattle.std.specs.Ordering.{int_eq}
use Rattle.std.proofs.lemmas.Bool.Decides.{Decides-int_eq}
use Rattle.std.proofs.lemmas.List.{length-replicate}
use Rattle.kit_base.specs.Limits.{most_labels}
use Rattle.mint.specs.declared.kind.Kind.{Kind}
use Rattle.mint.specs.declared.kind.Kind.TheVariants as kind
use Rattle.mint.specs.declared.kind.Count.{Count}
use Rattle.mint.specs.declared.kind.Count.TheVariants.{Exactly, AtMost, Any}
use Rattle.mint.specs.Kinds.{in_range, Allows}
use Rattle.mint.specs.Values.{Val, count}
use Rattle.mint.specs.Types.{Scalar, number, label, Array, text, row_of, Ty, void_type, scalar_type, array_type, group_type, items_type, choice_type, maybe_type, Tys, no_fields, field, Arms, no_other, others, arm_type}
use Rattle.mint.specs.Typed.{is_scalar, Each, IsOf, AreOf, IsWellTyped}
use Rattle.mint.specs.Blank.{least, first_of, blank, blanks, blank_arm, blank_array, blank_scalar, copies}
use Rattle.mint.specs.Sound.{is_labelled, are_labels, rise_from, are_tagged, are_arms, arm_numbers, is_armless, IsSound, AreSound, ArmsSound}
use Rattle.mint.proofs.Measuring.{Taken, level_taken, sound_taken}
use Rattle.std.proofs.lemmas.Bool.{not-false, and_from, and_parts}

same : (n : ℤ) → int_eq n n ≡ true
same n = (Decides-int_eq n n).1 refl

-- ---- scalars

zero_in : (k : Kind) → in_range k (pos 0) ≡ true
zero_in kind.Octet = refl
zero_in kind.I8 = refl
zero_in kind.U8 = refl
zero_in kind.Char = refl
zero_in kind.I16 = refl
zero_in kind.U16 = refl
zero_in kind.I32 = refl
zero_in kind.U32 = refl
zero_in kind.I64 = refl
zero_in kind.U64 = refl
zero_in kind.Bool = refl

first_is_label : (ns : List ℤ) → are_labels ns ≡ true → is_scalar (label ns) (first_of ns) ≡ true
first_is_label [] h = absurd cc
first_is_label (n ∷ ns) h =
    let ranged = and_parts (list_all (in_range kind.I32) (n ∷ ns)) _ h in
    let first = and_parts (in_range kind.I32 n) (list_all (in_range kind.I32) ns) ranged.0 in
    rw (first.0, same n) refl

blank_is_scalar : (s : Scalar) → is_labelled s ≡ true → is_scalar s (blank_scalar s) ≡ true
blank_is_scalar (number k) h = zero_in k
blank_is_scalar (label ns) h = first_is_label ns h

-- ---- arrays

zeros_in : (k : Kind) (n : ℕ) → list_all (in_range k) (replicate n (pos 0)) ≡ true
zeros_in k zero = refl
zeros_in k (suc n) = and_from (in_range k (pos 0)) _ (zero_in k) (zeros_in k n)

least_allowed : (c : Count) (n : ℕ) → n ≡ least c → Allows c n
least_allowed (Exactly m) n is = is
least_allowed (AtMost m) n is = (omega arith, omega arith)
least_allowed Any n is = omega arith

blank_is_array : (a : Array) → Taken (array_type a) → IsOf (array_type a) (blank_array a)
blank_is_array (text (Exactly n)) h = absurd cc
blank_is_array (text (AtMost n)) h = (refl, least_allowed (AtMost n) 0 refl, refl)
blank_is_array (text Any) h = (refl, least_allowed Any 0 refl, refl)
blank_is_array (row_of k c) h = (refl, least_allowed c _ (length-replicate (least c) (pos 0)), zeros_in k (least c))

-- ---- copies

count-copies : (n : ℕ) (v : Val) → count (copies n v) ≡ n
count-copies zero v = refl
count-copies (suc n) v = ap suc (count-copies n v)

each_copy : (P : Val → Type 0) (n : ℕ) (v : Val) → P v → Each P (copies n v)
each_copy P zero v h = tt
each_copy P (suc n) v h = (h, each_copy P n v h)

-- ---- types

armed_scalar : (s : Scalar) (arms : Arms) → Taken (choice_type s arms) → (is_labelled s ≡ true) × (are_arms s arms ≡ true)
armed_scalar s arms h = and_parts (is_labelled s) (are_arms s arms) (not-false (is_labelled s && are_arms s arms) h.labelled)

first_tagged : (s : Scalar) (n : ℤ) (t : Ty) (arms : Arms) → are_arms s (arm_type n t arms) ≡ true → is_scalar s n ≡ true
first_tagged s n t arms h =
    let ns = n ∷ arm_numbers arms in
    let tagged = and_parts (are_tagged s ns) (not (is_armless (arm_type n t arms))) h in
    let rising = and_parts (nat_le (length ns) most_labels) (rise_from None ns && list_all (is_scalar s) ns) tagged.0 in
    let all = and_parts (rise_from None ns) (list_all (is_scalar s) ns) rising.1 in
    (and_parts (is_scalar s n) (list_all (is_scalar s) (arm_numbers arms)) all.1).0

no_arms : (s : Scalar) → are_arms s no_other ≡ true → ⊥
no_arms s h = let a = and_parts (are_tagged s []) false h in cc

mutual
  pub blank_is_of : (t : Ty) → IsSound t → IsOf t (blank t)
  blank_is_of void_type h = tt
  blank_is_of (scalar_type s) h = blank_is_scalar s (not-false (is_labelled s) (level_taken (scalar_type s) h).labelled)
  blank_is_of (array_type a) h = blank_is_array a (level_taken (array_type a) h)
  blank_is_of (group_type ts) h = blanks_are_of ts h.1
  blank_is_of (items_type c t) h =
      (least_allowed c _ (count-copies (least c) (blank t)), each_copy (IsOf t) (least c) (blank t) (blank_is_of t h.1))
  blank_is_of (choice_type s arms) h = let a = armed_scalar s arms (level_taken (choice_type s arms) h.0) in blank_arm_is_of s arms a.0
      a.1 h.1
  blank_is_of (maybe_type t) h = tt

  blanks_are_of : (ts : Tys) → AreSound ts → AreOf ts (blanks ts)
  blanks_are_of no_fields h = tt
  blanks_are_of (field t ts) h = (blank_is_of t h.0, blanks_are_of ts h.1)

  blank_arm_is_of : (s : Scalar) (arms : Arms) → is_labelled s ≡ true → are_arms s arms ≡ true → ArmsSound arms
      → IsOf (choice_type s arms) (blank_arm s arms)
  blank_arm_is_of s no_other labelled armed h = absurd (no_arms s armed)
  blank_arm_is_of s (others t) labelled armed h = (blank_is_scalar s labelled, blank_is_of t h)
  blank_arm_is_of s (arm_type n t arms) labelled armed h = (first_tagged s n t arms armed, rw (same n) (blank_is_of t h.0))

pub blank_is_well_typed : (t : Ty) → IsSound t → IsWellTyped t (blank t)
blank_is_well_typed t h = let taken = sound_taken t h in record { is_of = blank_is_of t h; light = omega (arith, taken.light) }
