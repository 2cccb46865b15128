-- The blank value of a type, and a type's depth.
use Rattle.std.specs.Prelude.{ℕ, zero, suc, max, ℤ, pos, List, [], ◌∷◌, replicate}
use Rattle.mint.specs.declared.kind.Kind.TheVariants as kind
use Rattle.mint.specs.declared.kind.Count.{Count}
use Rattle.mint.specs.declared.kind.Count.TheVariants.{Exactly}
use Rattle.mint.specs.Values.{Val, void, num, row, group, items, arm, absent, Vals, no_more, val}
use Rattle.mint.specs.Types.{Scalar, number, label, Array, text, row_of, Ty, void_type, scalar_type, array_type, group_type, items_type, choice_type, maybe_type, Tys, no_fields, field, Arms, no_other, others, arm_type}

-- the least length that a count allows
abbrev pub least : Count → ℕ
least (Exactly n) = n
least _ = 0

-- the first label of an enum
abbrev pub first_of : List ℤ → ℤ
first_of [] = pos 0
first_of (n ∷ ns) = n

abbrev pub blank_scalar : Scalar → ℤ
blank_scalar (number k) = pos 0
blank_scalar (label ns) = first_of ns

abbrev pub blank_array : Array → Val
blank_array (text c) = row kind.Char []
blank_array (row_of k c) = row k (replicate (least c) (pos 0))

-- a value so many times
abbrev pub copies : ℕ → Val → Vals
copies zero v = no_more
copies (suc n) v = val v (copies n v)

-- the blank value of a type
abbrev mutual
  pub blank : Ty → Val
  blank void_type = void
  blank (scalar_type s) = num (blank_scalar s)
  blank (array_type a) = blank_array a
  blank (group_type ts) = group (blanks ts)
  blank (items_type c t) = items (copies (least c) (blank t))
  blank (choice_type s arms) = blank_arm s arms
  blank (maybe_type t) = absent

  pub blanks : Tys → Vals
  blanks no_fields = no_more
  blanks (field t ts) = val (blank t) (blanks ts)

  -- the first arm's blank value, or else the default's
  pub blank_arm : Scalar → Arms → Val
  blank_arm s no_other = void
  blank_arm s (others t) = arm (blank_scalar s) (blank t)
  blank_arm s (arm_type n t arms) = arm n (blank t)

-- how many levels a type has
abbrev mutual
  pub depth : Ty → ℕ
  depth (group_type ts) = suc (fields_depth ts)
  depth (items_type c t) = suc (depth t)
  depth (choice_type s arms) = suc (arms_depth arms)
  depth (maybe_type t) = suc (depth t)
  depth _ = 1

  pub fields_depth : Tys → ℕ
  fields_depth no_fields = 0
  fields_depth (field t ts) = max (depth t) (fields_depth ts)

  pub arms_depth : Arms → ℕ
  arms_depth no_other = 0
  arms_depth (others t) = depth t
  arms_depth (arm_type n t arms) = max (depth t) (arms_depth arms)
