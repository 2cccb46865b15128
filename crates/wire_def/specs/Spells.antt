-- Which octets are a value, from a position.
use Rattle.std.specs.Prelude.{◌≡◌, ℕ, ℤ, pos, List, [], MatchBool}
use Rattle.std.specs.Ordering.{int_eq}
use Rattle.mint.specs.Values.{Val, void, num, row, group, items, arm, absent, present, Vals, no_more, val, count, list_of}
use Rattle.mint.specs.Types.{Scalar, Ty, void_type, scalar_type, array_type, group_type, items_type, choice_type, maybe_type, Tys, no_fields, field, Arms, no_other, others, arm_type}
use Rattle.mint.specs.Typed.{has_arm, IsWellTyped}
use Rattle.wire_def.specs.declared.encoding.Encoding.{Encoding}
use Rattle.wire_def.specs.Grammar.{Spelling, Parts, SpellTimes}
use Rattle.wire_def.specs.Lone.{LoneSpells, PassSpells}
use Rattle.wire_def.specs.Arrays.{CountSpells, ArraySpells, kind_of}
use Rattle.wire_def.specs.Send.{flag}

-- a discriminant that has an arm
abbrev pub TagSpells : Encoding → Scalar → Arms → Spelling ℤ
TagSpells e s arms = PassSpells e s (has_arm arms)

-- the octets are the value, case by case; the values of the fields; the value of the number's arm
abbrev mutual
  pub Spells : Encoding → Ty → ℕ → List ℕ → Val → Type 0
  Spells e void_type p o void = o ≡ []
  Spells e (scalar_type s) p o (num n) = LoneSpells e s p o n
  Spells e (array_type a) p o (row k ns) = (k ≡ kind_of a) × ArraySpells e a p o ns
  Spells e (group_type ts) p o (group vs) = FieldsSpell e ts p o vs
  Spells e (items_type c t) p o (items vs) = Parts p o (λ a. CountSpells e c p a (count vs))
      (λ q b. SpellTimes (Spells e t) (count vs) q b (list_of vs))
  Spells e (choice_type s arms) p o (arm n v) = Parts p o (λ a. TagSpells e s arms p a n) (λ q b. ArmSpells e arms n q b v)
  Spells e (maybe_type t) p o absent = LoneSpells e flag p o (pos 0)
  Spells e (maybe_type t) p o (present v) = Parts p o (λ a. LoneSpells e flag p a (pos 1)) (λ q b. Spells e t q b v)
  Spells e _ p o _ = ⊥

  pub FieldsSpell : Encoding → Tys → ℕ → List ℕ → Vals → Type 0
  FieldsSpell e no_fields p o no_more = o ≡ []
  FieldsSpell e (field t ts) p o (val v vs) = Parts p o (λ a. Spells e t p a v) (λ q b. FieldsSpell e ts q b vs)
  FieldsSpell e _ p o _ = ⊥

  pub ArmSpells : Encoding → Arms → ℤ → ℕ → List ℕ → Val → Type 0
  ArmSpells e no_other n p o v = ⊥
  ArmSpells e (others t) n p o v = Spells e t p o v
  ArmSpells e (arm_type m t arms) n p o v = MatchBool (int_eq n m) (Spells e t p o v) (ArmSpells e arms n p o v)

-- a well-typed value and octets that are it, from a position
pub record IsSpelling (e : Encoding) (t : Ty) (p : ℕ) (o : List ℕ) (v : Val) : Type 0 where
  pub typed : IsWellTyped t v
  pub octets : Spells e t p o v
