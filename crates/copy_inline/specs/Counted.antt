-- How many rows and texts of a value travel as a block.
use Rattle.std.specs.Prelude.{ℕ, ◌+◌, ℤ, if◌then◌else◌}
use Rattle.std.specs.Ordering.{int_eq}
use Rattle.mint.specs.Types.{Ty, array_type, group_type, items_type, choice_type, maybe_type, Tys, field, Arms, no_other, others, arm_type}
use Rattle.mint.specs.Values.{Val, group, items, arm, present, Vals, no_more, val}
use Rattle.wire_def.specs.declared.encoding.Encoding.{Encoding}
use Rattle.copy_inline.specs.declared.sorts.Sort.{Sort}
use Rattle.copy_inline.specs.declared.sorts.Sort.TheVariants as sort
use Rattle.copy_inline.specs.Sorts.{sort_of}

-- one, if it is a block
abbrev pub one_block : Sort → ℕ
one_block sort.Block = 1
one_block _ = 0

-- the sum over values
abbrev pub over_all : (Val → ℕ) → Vals → ℕ
over_all f no_more = 0
over_all f (val v vs) = f v + over_all f vs

abbrev mutual
  -- the rows and texts in a value that travel as a block, empty ones too
  pub blocks : Encoding → Ty → Val → ℕ
  blocks e (array_type a) v = one_block (sort_of e a)
  blocks e (group_type ts) (group vs) = fields_blocks e ts vs
  blocks e (items_type c t) (items vs) = over_all (blocks e t) vs
  blocks e (choice_type s arms) (arm n v) = arm_blocks e arms n v
  blocks e (maybe_type t) (present v) = blocks e t v
  blocks e _ _ = 0

  -- those of fields
  pub fields_blocks : Encoding → Tys → Vals → ℕ
  fields_blocks e (field t ts) (val v vs) = blocks e t v + fields_blocks e ts vs
  fields_blocks e _ _ = 0

  -- those of the arm of a number
  pub arm_blocks : Encoding → Arms → ℤ → Val → ℕ
  arm_blocks e no_other n v = 0
  arm_blocks e (others t) n v = blocks e t v
  arm_blocks e (arm_type m t arms) n v = if int_eq n m then blocks e t v else arm_blocks e arms n v
