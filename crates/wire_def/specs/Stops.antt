-- The first fault of octets that no value is spelled by, and its place.
use Rattle.std.specs.Prelude.{◌≡◌, ◌⊎◌, ℕ, ℤ, pos, List, MatchBool}
use Rattle.std.specs.Ordering.{int_eq}
use Rattle.mint.specs.Values.{Val}
use Rattle.mint.specs.Types.{Scalar, Ty, void_type, scalar_type, array_type, group_type, items_type, choice_type, maybe_type, Tys, no_fields, field, Arms, no_other, others, arm_type}
use Rattle.mint.specs.Typed.{has_arm}
use Rattle.wire_def.specs.declared.encoding.Encoding.{Encoding}
use Rattle.wire_def.specs.declared.fault.FaultKind.{FaultKind}
use Rattle.wire_def.specs.declared.fault.FaultKind.TheVariants.{BadValue}
use Rattle.wire_def.specs.Grammar.{Stopping, Parts, StopTimes}
use Rattle.wire_def.specs.Lone.{LoneSpells, LoneStops, PassStops}
use Rattle.wire_def.specs.Arrays.{CountSpells, CountStops, ArrayStops}
use Rattle.wire_def.specs.Send.{flag}
use Rattle.wire_def.specs.Spells.{Spells, TagSpells}

-- a discriminant that stops as a scalar, or does not have an arm
abbrev pub TagStops : Encoding → Scalar → Arms → Stopping FaultKind
TagStops e s arms = PassStops e s (has_arm arms) BadValue

-- the first fault of a value's octets; of the fields, after those before it; of the number's arm
abbrev mutual
  pub Stops : Encoding → Ty → ℕ → List ℕ → FaultKind → ℕ → Type 0
  Stops e void_type p o k at = ⊥
  Stops e (scalar_type s) p o k at = LoneStops e s p o k at
  Stops e (array_type a) p o k at = ArrayStops e a p o k at
  Stops e (group_type ts) p o k at = FieldsStop e ts p o k at
  Stops e (items_type c t) p o k at = CountStops e c p o k at
      ⊎ ((n : ℕ) × Parts p o (λ a. CountSpells e c p a n) (λ q b. StopTimes (Spells e t) (Stops e t) n q b k at))
  Stops e (choice_type s arms) p o k at = TagStops e s arms p o k at
      ⊎ ((n : ℤ) × Parts p o (λ a. TagSpells e s arms p a n) (λ q b. ArmStops e arms n q b k at))
  Stops e (maybe_type t) p o k at = LoneStops e flag p o k at ⊎ Parts p o (λ a. LoneSpells e flag p a (pos 1)) (λ q b. Stops e t q b k at)

  pub FieldsStop : Encoding → Tys → ℕ → List ℕ → FaultKind → ℕ → Type 0
  FieldsStop e no_fields p o k at = ⊥
  FieldsStop e (field t ts) p o k at = Stops e t p o k at
      ⊎ ((v : Val) × Parts p o (λ a. Spells e t p a v) (λ q b. FieldsStop e ts q b k at))

  pub ArmStops : Encoding → Arms → ℤ → ℕ → List ℕ → FaultKind → ℕ → Type 0
  ArmStops e no_other n p o k at = (k ≡ BadValue) × (at ≡ p)
  ArmStops e (others t) n p o k at = Stops e t p o k at
  ArmStops e (arm_type m t arms) n p o k at = MatchBool (int_eq n m) (Stops e t p o k at) (ArmStops e arms n p o k at)
