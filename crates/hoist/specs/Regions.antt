-- Regions of a value: how often a buffer may be looked at.
use Rattle.std.specs.Prelude.{◌≡◌, ℕ, zero, suc, ◌+◌, ◌-◌, ◌≤◌, Bool, true, false, ◌||◌, nat_le, if◌then◌else◌, ℤ, List, [], ◌∷◌, ◌++◌, Option, None, Some}
use Rattle.std.specs.Ordering.{int_eq}
use Rattle.mint.specs.declared.kind.Count.{Count}
use Rattle.mint.specs.declared.kind.Count.TheVariants.{Exactly}
use Rattle.mint.specs.Types.{Scalar, Array, Ty, void_type, scalar_type, array_type, group_type, items_type, choice_type, maybe_type, Tys, no_fields, field, Arms, no_other, others, arm_type}
use Rattle.mint.specs.Sound.{IsSound}
use Rattle.mint.specs.Values.{Val, group, items, arm, absent, present, Vals, no_more, val}
use Rattle.wire_def.specs.Arrays.{count_of}
use Rattle.wire_def.specs.Hollow.{is_hollow}
use Rattle.cast_stub.specs.Parts.{IsThere}
use Rattle.cast_stub.specs.PartTypes.{in_group_type, ty_at}
use Rattle.hoist.specs.Bound.{most, plus}
use Rattle.hoist.specs.Hoisted.{enough, Role, is_small, is_row, is_break, Roles}

-- what is known of the lengths of what is sent
pub record Sizes : Type 0 where
  -- the greatest length of a type, if there is one
  pub top : Ty → Option ℕ
  -- whether the length is the same for all values
  pub fixed : Ty → Bool
  -- the greatest length of what comes before the elements, the arm or the value
  pub front : Ty → ℕ
  -- what an operation over it weighs where it is small
  pub weight : Ty → ℕ

-- ---- parts

-- a piece of a value: so many octets at most, a row, or the border of a body
pub data Part : Type 0 where
  small_part : ℕ → Part
  row_part : Part
  break_part : Part

-- a small part, if it has octets
abbrev pub lone : ℕ → List Part
lone zero = []
lone (suc n) = small_part (suc n) ∷ []

-- a greatest length that is there and is enough for one region
abbrev pub is_light : Option ℕ → Bool
is_light None = false
is_light (Some n) = nat_le n enough

-- a greatest length, or 0
abbrev pub or_zero : Option ℕ → ℕ
or_zero None = 0
or_zero (Some n) = n

-- one small part, or the parts of a type that is not small
abbrev pub light_or : Option ℕ → List Part → List Part
light_or x ps = if is_light x then lone (or_zero x) else ps

-- the parts of each element, a break after each
abbrev pub with_breaks : (Val → List Part) → Vals → List Part
with_breaks f no_more = []
with_breaks f (val v vs) = f v ++ break_part ∷ with_breaks f vs

-- breaks around the parts of each element
abbrev pub broken : (Val → List Part) → Vals → List Part
broken f vs = break_part ∷ with_breaks f vs

abbrev mutual
  -- the parts of a value, in order
  pub parts : Sizes → Ty → Val → List Part
  parts z (group_type ts) (group vs) = light_or (z.top (group_type ts)) (fields_parts z ts vs)
  parts z (array_type a) v = light_or (z.top (array_type a)) (lone (z.front (array_type a)) ++ row_part ∷ [])
  parts z (items_type c t) (items vs) = light_or (z.top (items_type c t))
      (lone (z.front (items_type c t)) ++ (if z.fixed t then row_part ∷ [] else broken (parts z t) vs))
  parts z (choice_type s arms) (arm n v) = light_or (z.top (choice_type s arms))
      (lone (z.front (choice_type s arms)) ++ break_part ∷ (arm_parts z arms n v ++ break_part ∷ []))
  parts z (maybe_type t) absent = light_or (z.top (maybe_type t)) (lone (z.front (maybe_type t)) ++ break_part ∷ break_part ∷ [])
  parts z (maybe_type t) (present v) = light_or (z.top (maybe_type t))
      (lone (z.front (maybe_type t)) ++ break_part ∷ (parts z t v ++ break_part ∷ []))
  parts z t _ = light_or (z.top t) []

  -- those of fields
  pub fields_parts : Sizes → Tys → Vals → List Part
  fields_parts z (field t ts) (val v vs) = parts z t v ++ fields_parts z ts vs
  fields_parts z _ _ = []

  -- those of the arm of a number
  pub arm_parts : Sizes → Arms → ℤ → Val → List Part
  arm_parts z no_other n v = []
  arm_parts z (others t) n v = parts z t v
  arm_parts z (arm_type m t arms) n v = if int_eq n m then parts z t v else arm_parts z arms n v

-- ---- regions

-- the groups of parts, where a group with so many octets may be begun: rows by themselves, and small parts in
-- order, as many together as fit
abbrev pub groups : Option ℕ → List Part → ℕ
groups begun [] = 0
groups begun (row_part ∷ ps) = suc (groups None ps)
groups begun (break_part ∷ ps) = groups None ps
groups None (small_part n ∷ ps) = suc (groups (Some n) ps)
groups (Some m) (small_part n ∷ ps) = if nat_le (m + n) enough then groups (Some (m + n)) ps else suc (groups (Some n) ps)

-- the regions of a value after a lead
abbrev pub regions : Sizes → ℕ → Ty → Val → ℕ
regions z n t v = groups None (lone n ++ parts z t v)

-- ---- roles

-- whether there is a type that is so
abbrev pub further_on : Option Ty → (Ty → Bool) → Bool
further_on None f = false
further_on (Some t) f = f t

-- whether a node on the way to the part at a path is small
abbrev pub on_way : Sizes → List ℕ → Ty → Bool
on_way z [] t = is_light (z.top t)
on_way z (i ∷ p) t = is_light (z.top t) || further_on (in_group_type i t) (on_way z p)

-- a part whose elements are of one length
abbrev pub is_alike : Sizes → Ty → Bool
is_alike z (array_type a) = true
is_alike z (items_type c t) = z.fixed t
is_alike z _ = false

-- the role of a part that is not small
abbrev pub role_of : Sizes → Ty → Role
role_of z t = if is_alike z t then is_row else is_break

-- the same, of a part that may be there
abbrev pub role_at : Sizes → Option Ty → Role
role_at z None = is_break
role_at z (Some t) = role_of z t

-- the weight at a path, or 0
abbrev pub weight_at : Sizes → Option Ty → ℕ
weight_at z None = 0
weight_at z (Some t) = z.weight t

-- what the sizes make of operations: small where a node on the way is, of the weight of the part
abbrev pub roles : Sizes → Roles
roles z t p = if on_way z p t then is_small (weight_at z (ty_at p t)) else role_at z (ty_at p t)

-- ---- sizes that belong together

-- the greatest lengths of fields together
abbrev pub fields_top : Sizes → Tys → Option ℕ
fields_top z no_fields = Some 0
fields_top z (field t ts) = plus (z.top t) (fields_top z ts)

-- the weights of fields together
abbrev pub fields_weight : Sizes → Tys → ℕ
fields_weight z no_fields = 0
fields_weight z (field t ts) = z.weight t + fields_weight z ts

-- each arm has a greatest length
abbrev pub ArmsBounded : Sizes → Arms → Type 0
ArmsBounded z no_other = Unit {0}
ArmsBounded z (others t) = IsThere (z.top t)
ArmsBounded z (arm_type n t arms) = IsThere (z.top t) × ArmsBounded z arms

-- a list that is sent with its count
abbrev pub IsCounted : Count → Type 0
IsCounted (Exactly n) = ⊥
IsCounted _ = Unit {0}

-- sizes of wholes that follow from those of their parts
pub record AreSizes (z : Sizes) : Type 0 where
  pub nothing : z.top void_type ≡ Some 0
  pub scalar : (s : Scalar) → (n : ℕ) × (z.top (scalar_type s) ≡ Some n) × (1 ≤ n) × (n ≤ enough)
  pub group : (ts : Tys) (n : ℕ) → z.top (group_type ts) ≡ Some n → (m : ℕ) × (fields_top z ts ≡ Some m)
  -- fields weigh no more than their group, and nothing as much as its greatest length
  pub fields : (ts : Tys) (n : ℕ) → z.top (group_type ts) ≡ Some n → fields_weight z ts ≤ z.weight (group_type ts)
  pub weight : (t : Ty) (n : ℕ) → z.top t ≡ Some n → z.weight t ≤ n - 1
  pub array : (a : Array) → IsThere (z.top (array_type a)) → IsThere (most (count_of a))
  pub items : (c : Count) (t : Ty) → IsThere (z.top (items_type c t)) → IsThere (most c) × IsThere (z.top t)
  pub choice : (s : Scalar) (arms : Arms) → IsThere (z.top (choice_type s arms)) → ArmsBounded z arms
  pub maybe : (t : Ty) → IsThere (z.top (maybe_type t)) → IsThere (z.top t)
  -- what has octets has a greatest length above 0
  pub solid : (t : Ty) (n : ℕ) → IsSound t → is_hollow t ≡ false → z.top t ≡ Some n → 1 ≤ n
  pub fixed : (t : Ty) → z.fixed t ≡ true → IsThere (z.top t)
  pub count : (c : Count) (t : Ty) → IsCounted c → 1 ≤ z.front (items_type c t)
  pub tag : (s : Scalar) (arms : Arms) → 1 ≤ z.front (choice_type s arms)
  pub flag : (t : Ty) → 1 ≤ z.front (maybe_type t)
