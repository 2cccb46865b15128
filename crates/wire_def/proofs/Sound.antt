-- What a table refuses leaves types whose values take room, by mutual induction on types, fields and arms.
use Rattle.std.proofs.Common.{◌≡◌, ℕ, zero, suc, ◌<◌, ◌≤◌, Bool, true, false, ◌||◌, cond, None, Some, refl, arith}
use Rattle.std.specs.Prelude.{nat_eq, nat_lt}
use Rattle.std.proofs.lemmas.Bool.{ltb-false, and_parts}
use Rattle.mint.specs.declared.kind.Count.{Count}
use Rattle.mint.specs.declared.kind.Count.TheVariants.{Exactly, AtMost, Any}
use Rattle.mint.specs.declared.errors.MintErr.{MintErr}
use Rattle.mint.specs.Values.{weight, weights}
use Rattle.mint.specs.Blank.{blank, blanks, depth}
use Rattle.mint.specs.Types.{Array, text, row_of, Ty, void_type, scalar_type, array_type, group_type, items_type, choice_type, maybe_type, Tys, no_fields, field, Arms, no_other, others, arm_type}
use Rattle.mint.specs.Sound.{is_unfit, is_zero, is_empty, is_mislabelled, level_refusal, IsSound, AreSound, ArmsSound}
use Rattle.wire_def.specs.Arrays.{count_of}
use Rattle.wire_def.specs.Hollow.{is_hollow, are_hollow}
use Rattle.mint.proofs.Measuring.{sound_level}

-- a count that is not exactly 0
abbrev pub IsCount : Count → Type 0
IsCount (Exactly m) = 0 < m
IsCount _ = Unit {0}

-- a type in which no count is exactly 0, and no element is without octets
abbrev mutual
  pub TakesRoom : Ty → Type 0
  TakesRoom (array_type a) = IsCount (count_of a)
  TakesRoom (group_type ts) = FieldsTakeRoom ts
  TakesRoom (items_type c t) = IsCount c × (is_hollow t ≡ false) × TakesRoom t
  TakesRoom (choice_type s arms) = ArmsTakeRoom arms
  TakesRoom (maybe_type t) = TakesRoom t
  TakesRoom _ = Unit {0}

  pub FieldsTakeRoom : Tys → Type 0
  FieldsTakeRoom no_fields = Unit {0}
  FieldsTakeRoom (field t ts) = TakesRoom t × FieldsTakeRoom ts

  pub ArmsTakeRoom : Arms → Type 0
  ArmsTakeRoom no_other = Unit {0}
  ArmsTakeRoom (others t) = TakesRoom t
  ArmsTakeRoom (arm_type m t arms) = TakesRoom t × ArmsTakeRoom arms

-- tests of which none refused
none_refused : (a b c d e : Bool) (v w x y z : MintErr)
    → cond a (Some v) (cond b (Some w) (cond c (Some x) (cond d (Some y) (cond e (Some z) None)))) ≡ None
    → (b ≡ false) × (d ≡ false)
none_refused true b c d e v w x y z h = absurd cc
none_refused false true c d e v w x y z h = absurd cc
none_refused false false true d e v w x y z h = absurd cc
none_refused false false false true e v w x y z h = absurd cc
none_refused false false false false e v w x y z h = (refl, refl)

level_passes : (t : Ty) → level_refusal t ≡ None → (is_empty t ≡ false) × (nat_lt 32 (depth t) ≡ false)
level_passes t h = none_refused (is_unfit t) (is_empty t) (is_mislabelled t) (nat_lt 32 (depth t)) (nat_lt 1048576 (weight (blank t))) _ _
    _ _ _ h

neither : (a b : Bool) → a || b ≡ false → (a ≡ false) × (b ≡ false)
neither true b h = absurd cc
neither false b h = (refl, h)

count_some : (c : Count) → is_zero c ≡ false → IsCount c
count_some (Exactly zero) h = absurd cc
count_some (Exactly (suc n)) h = omega arith
count_some (AtMost n) h = tt
count_some Any h = tt

array_some : (a : Array) → is_empty (array_type a) ≡ false → IsCount (count_of a)
array_some (text c) h = count_some c h
array_some (row_of k c) h = count_some c h

-- a type whose blank value weighs something has octets
mutual
  weightless : (t : Ty) → is_hollow t ≡ true → weight (blank t) ≡ 0
  weightless void_type h = refl
  weightless (group_type ts) h = fields_weightless ts h
  weightless _ h = absurd cc

  fields_weightless : (ts : Tys) → are_hollow ts ≡ true → weights (blanks ts) ≡ 0
  fields_weightless no_fields h = refl
  fields_weightless (field t ts) h =
      let parts = and_parts (is_hollow t) (are_hollow ts) h in
      omega (arith, weightless t parts.0, fields_weightless ts parts.1)

weighs : (n : ℕ) → nat_eq n 0 ≡ false → n ≡ 0 → ⊥
weighs zero h is = absurd cc
weighs (suc n) h is = absurd cc

has_octets : (t : Ty) → nat_eq (weight (blank t)) 0 ≡ false → is_hollow t ≡ false
has_octets t h = decide (is_hollow t) refl where
  decide : (b : Bool) → is_hollow t ≡ b → is_hollow t ≡ false
  decide false is = is
  decide true is = absurd (weighs (weight (blank t)) h (weightless t is))

mutual
  pub room : (t : Ty) → IsSound t → TakesRoom t
  room void_type h = tt
  room (scalar_type s) h = tt
  room (array_type a) h = array_some a (level_passes (array_type a) h).0
  room (group_type ts) h = fields_room ts h.1
  room (items_type c t) h =
      let parts = neither (is_zero c) (nat_eq (weight (blank t)) 0) (level_passes (items_type c t) h.0).0 in
      (count_some c parts.0, has_octets t parts.1, room t h.1)
  room (choice_type s arms) h = arms_room arms h.1
  room (maybe_type t) h = room t h.1

  fields_room : (ts : Tys) → AreSound ts → FieldsTakeRoom ts
  fields_room no_fields h = tt
  fields_room (field t ts) h = (room t h.0, fields_room ts h.1)

  arms_room : (arms : Arms) → ArmsSound arms → ArmsTakeRoom arms
  arms_room no_other h = tt
  arms_room (others t) h = room t h
  arms_room (arm_type m t arms) h = (room t h.0, arms_room arms h.1)

pub shallow : (t : Ty) → IsSound t → depth t ≤ 32
shallow t h = ltb-false 32 (depth t) (level_passes t (sound_level t h)).1
