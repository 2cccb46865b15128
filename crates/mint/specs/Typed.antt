-- When a value is of a type.
use Rattle.std.specs.Prelude.{if◌then◌else◌, true, false, MatchBool, ◌&&◌, Bool, IsTrue, ◌≡◌, ◌≤◌, ℤ, List, length}
use Rattle.std.specs.Ordering.{int_eq}
use Rattle.mint.specs.declared.kind.Kind.{Kind}
use Rattle.mint.specs.declared.kind.Kind.TheVariants as kind
use Rattle.std.specs.List.{list_all, list_any}
use Rattle.kit_base.specs.Limits.{heaviest}
use Rattle.mint.specs.Kinds.{in_range, is_letter, Allows}
use Rattle.mint.specs.Values.{Val, void, num, row, group, items, arm, absent, present, Vals, no_more, val, count, weight}
use Rattle.mint.specs.Types.{Scalar, number, label, Array, text, row_of, Ty, void_type, scalar_type, array_type, group_type, items_type, choice_type, maybe_type, Tys, no_fields, field, Arms, no_other, others, arm_type}

abbrev pub is_scalar : Scalar → ℤ → Bool
is_scalar (number k) n = in_range k n
is_scalar (label labels) n = in_range kind.I32 n && list_any (λ l. int_eq l n) labels

abbrev pub IsScalar : Scalar → ℤ → Type 0
IsScalar s n = IsTrue (is_scalar s n)

abbrev pub IsArray : Array → Kind → List ℤ → Type 0
IsArray (text c) k ns = (k ≡ kind.Char) × Allows c (length ns) × IsTrue (list_all is_letter ns)
IsArray (row_of k' c) k ns = (k ≡ k') × Allows c (length ns) × IsTrue (list_all (in_range k') ns)

-- whether there is an arm for the number
abbrev pub has_arm : Arms → ℤ → Bool
has_arm no_other n = false
has_arm (others t) n = true
has_arm (arm_type m t arms) n = if int_eq n m then true else has_arm arms n

-- values each of which has the fact
abbrev pub Each : (Val → Type 0) → Vals → Type 0
Each P no_more = Unit {0}
Each P (val v vs) = P v × Each P vs

-- a value of the type, whatever it weighs; values of the fields
abbrev mutual
  pub IsOf : Ty → Val → Type 0
  IsOf void_type void = Unit {0}
  IsOf (scalar_type s) (num n) = IsScalar s n
  IsOf (array_type a) (row k ns) = IsArray a k ns
  IsOf (group_type ts) (group vs) = AreOf ts vs
  IsOf (items_type c t) (items vs) = Allows c (count vs) × Each (IsOf t) vs
  IsOf (choice_type s arms) (arm n v) = IsScalar s n × IsOfArm arms n v
  IsOf (maybe_type t) absent = Unit {0}
  IsOf (maybe_type t) (present v) = IsOf t v
  IsOf _ _ = ⊥

  pub AreOf : Tys → Vals → Type 0
  AreOf no_fields no_more = Unit {0}
  AreOf (field t ts) (val v vs) = IsOf t v × AreOf ts vs
  AreOf _ _ = ⊥

  -- a value of the number's arm
  pub IsOfArm : Arms → ℤ → Val → Type 0
  IsOfArm no_other n v = ⊥
  IsOfArm (others t) n v = IsOf t v
  IsOfArm (arm_type m t arms) n v = MatchBool (int_eq n m) (IsOf t v) (IsOfArm arms n v)

-- a value of the type that is not too heavy
pub record IsWellTyped (t : Ty) (v : Val) : Type 0 where
  pub is_of : IsOf t v
  pub light : weight v ≤ heaviest
