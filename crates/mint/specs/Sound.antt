-- The types that a table may hold.
use Rattle.std.specs.Prelude.{Bool, true, false, ◌&&◌, ◌||◌, not, if◌then◌else◌, nat_lt, nat_le, nat_eq, int_lt, ◌≡◌, ℕ, ℤ, List, [], ◌∷◌, length, Option, None, Some}
use Rattle.std.specs.List.{list_all}
use Rattle.kit_base.specs.Limits.{deepest, heaviest_blank, most_labels, most_nodes}
use Rattle.mint.specs.declared.kind.Kind.TheVariants as kind
use Rattle.mint.specs.declared.kind.Count.{Count}
use Rattle.mint.specs.declared.kind.Count.TheVariants.{Exactly}
use Rattle.mint.specs.declared.node.Node.{Node}
use Rattle.mint.specs.declared.node.Node.TheVariants as node
use Rattle.mint.specs.declared.errors.MintErr.{MintErr}
use Rattle.mint.specs.declared.errors.MintErr.TheVariants as err
use Rattle.mint.specs.Kinds.{in_range}
use Rattle.mint.specs.Values.{weight}
use Rattle.mint.specs.Types.{Scalar, number, label, text, row_of, Ty, void_type, scalar_type, array_type, group_type, items_type, choice_type, maybe_type, Tys, no_fields, field, Arms, no_other, others, arm_type, level, unfolded}
use Rattle.mint.specs.Typed.{is_scalar}
use Rattle.mint.specs.Blank.{blank, depth}

-- rows of Bool, and texts of an exact length
abbrev pub is_unfit : Ty → Bool
is_unfit (array_type (row_of kind.Bool c)) = true
is_unfit (array_type (text (Exactly n))) = true
is_unfit _ = false

-- a count of no elements
abbrev pub is_zero : Count → Bool
is_zero (Exactly n) = nat_eq n 0
is_zero _ = false

-- a count of no elements, or elements whose blank value weighs nothing
abbrev pub is_empty : Ty → Bool
is_empty (array_type (text c)) = is_zero c
is_empty (array_type (row_of k c)) = is_zero c
is_empty (items_type c t) = is_zero c || nat_eq (weight (blank t)) 0
is_empty _ = false

-- numbers each above the one before, the first above a number that may be there
abbrev pub rise_from : Option ℤ → List ℤ → Bool
rise_from last [] = true
rise_from None (n ∷ ns) = rise_from (Some n) ns
rise_from (Some m) (n ∷ ns) = int_lt m n && rise_from (Some n) ns

-- labels that an enum may have
abbrev pub are_labels : List ℤ → Bool
are_labels ns = list_all (in_range kind.I32) ns && (nat_lt 0 (length ns) && nat_le (length ns) most_labels && rise_from None ns)

-- scalars that a node or a tag may have
abbrev pub is_labelled : Scalar → Bool
is_labelled (number k) = true
is_labelled (label ns) = are_labels ns

-- the numbers that arms list
abbrev pub arm_numbers : Arms → List ℤ
arm_numbers (arm_type n t arms) = n ∷ arm_numbers arms
arm_numbers _ = []

-- numbers that the arms of a tag may list
abbrev pub are_tagged : Scalar → List ℤ → Bool
are_tagged s ns = nat_le (length ns) most_labels && (rise_from None ns && list_all (is_scalar s) ns)

-- neither an arm nor a default
abbrev pub is_armless : Arms → Bool
is_armless no_other = true
is_armless _ = false

-- arms that a choice of the tag may have
abbrev pub are_arms : Scalar → Arms → Bool
are_arms s arms = are_tagged s (arm_numbers arms) && not (is_armless arms)

-- labels or arms that are not allowed
abbrev pub is_mislabelled : Ty → Bool
is_mislabelled (scalar_type s) = not (is_labelled s)
is_mislabelled (choice_type s arms) = not (is_labelled s && are_arms s arms)
is_mislabelled _ = false

-- the first thing that a table refuses at a type itself
abbrev pub level_refusal : Ty → Option MintErr
level_refusal t =
    if is_unfit t then Some err.Kind
    else (if is_empty t then Some err.Empty
    else (if is_mislabelled t then Some err.Labels
    else (if nat_lt deepest (depth t) then Some err.Deep
    else (if nat_lt heaviest_blank (weight (blank t)) then Some err.Heavy
    else None))))

-- a default arm, if there is one, that comes before the node of number k
abbrev pub is_below : ℕ → Option ℕ → Bool
is_below k None = true
is_below k (Some i) = nat_lt i k

-- a node whose children all come before the node of number k
abbrev pub children_below : ℕ → Node → Bool
children_below k (node.Group ids) = list_all (λ i. nat_lt i k) ids
children_below k (node.Items i c) = nat_lt i k
children_below k (node.Choice t arms other) = list_all (λ a. nat_lt a.1 k) arms && is_below k other
children_below k (node.Maybe i) = nat_lt i k
children_below k _ = true

-- why a table does not take a node
abbrev pub refusal : List Node → Node → Option MintErr
refusal nodes n =
    if nat_le most_nodes (length nodes) then Some err.Many
    else (if not (children_below (length nodes) n) then Some err.Forward
    else level_refusal (level (unfolded nodes) n))

-- a type where nothing is refused, neither at it nor inside it
abbrev mutual
  pub IsSound : Ty → Type 0
  IsSound void_type = level_refusal void_type ≡ None
  IsSound (scalar_type s) = level_refusal (scalar_type s) ≡ None
  IsSound (array_type a) = level_refusal (array_type a) ≡ None
  IsSound (group_type ts) = (level_refusal (group_type ts) ≡ None) × AreSound ts
  IsSound (items_type c t) = (level_refusal (items_type c t) ≡ None) × IsSound t
  IsSound (choice_type s arms) = (level_refusal (choice_type s arms) ≡ None) × ArmsSound arms
  IsSound (maybe_type t) = (level_refusal (maybe_type t) ≡ None) × IsSound t

  pub AreSound : Tys → Type 0
  AreSound no_fields = Unit {0}
  AreSound (field t ts) = IsSound t × AreSound ts

  pub ArmsSound : Arms → Type 0
  ArmsSound no_other = Unit {0}
  ArmsSound (others t) = IsSound t
  ArmsSound (arm_type n t arms) = IsSound t × ArmsSound arms
