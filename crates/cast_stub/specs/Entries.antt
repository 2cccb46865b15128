-- How many entries and leaves a value has, by which moves and stores are bounded.
use Rattle.std.specs.Prelude.{ℕ, suc, ◌+◌, ℤ, length, Bool, false, nat_eq, if◌then◌else◌}
use Rattle.std.specs.Ordering.{int_eq}
use Rattle.mint.specs.Kinds.{width}
use Rattle.mint.specs.Types.{Array, Ty, scalar_type, array_type, group_type, items_type, choice_type, maybe_type, Tys, field, Arms, no_other, others, arm_type}
use Rattle.mint.specs.Values.{Val, row, group, items, arm, absent, present, Vals, val}
use Rattle.wire_def.specs.declared.encoding.Encoding.{Encoding}
use Rattle.wire_def.specs.Arrays.{kind_of}
use Rattle.cast_stub.specs.Layouts.{element_width, is_looped}
use Rattle.cast_stub.specs.Met.{of_each}

-- how many numbers a row or text has
abbrev pub numbers_in : Val → ℕ
numbers_in (row k ns) = length ns
numbers_in _ = 0

-- ---- entries

-- one for a row or text; one that goes element by element has one more for each element
abbrev pub array_entries : Bool → Val → ℕ
array_entries looped v = if looped then suc (numbers_in v) else 1

abbrev mutual
  -- the entries of a value behind its start: each turn of a loop, the end of each loop, each arm or value behind a flag
  -- and its end, each row
  pub inner_entries : Encoding → Ty → Val → ℕ
  inner_entries e (array_type a) v = array_entries (is_looped e a) v
  inner_entries e (group_type ts) (group vs) = fields_entries e ts vs
  inner_entries e (items_type c t) (items vs) = suc (of_each (λ w. suc (inner_entries e t w)) vs)
  inner_entries e (choice_type s arms) (arm n v) = suc (suc (arm_entries e arms n v))
  inner_entries e (maybe_type t) absent = 2
  inner_entries e (maybe_type t) (present v) = suc (suc (inner_entries e t v))
  inner_entries e _ _ = 0

  -- those of fields
  pub fields_entries : Encoding → Tys → Vals → ℕ
  fields_entries e (field t ts) (val v vs) = inner_entries e t v + fields_entries e ts vs
  fields_entries e _ _ = 0

  -- those of the arm of a number
  pub arm_entries : Encoding → Arms → ℤ → Val → ℕ
  arm_entries e no_other n v = 0
  arm_entries e (others t) n v = inner_entries e t v
  arm_entries e (arm_type m t arms) n v = if int_eq n m then inner_entries e t v else arm_entries e arms n v

-- the entries of a value
abbrev pub entries : Encoding → Ty → Val → ℕ
entries e t v = suc (inner_entries e t v)

-- ---- leaves

-- a number of a row has as many octets in a message as in an image
abbrev pub is_whole : Encoding → Array → Bool
is_whole e a = if is_looped e a then false else nat_eq (element_width e a) (width (kind_of a))

-- one for a row or text; one whose numbers are stored one by one has one more for each number
abbrev pub array_leaves : Bool → Val → ℕ
array_leaves whole v = if whole then 1 else suc (numbers_in v)

abbrev mutual
  -- the leaves of a value: each number, label, tag, flag, list, row and text, and each number that is stored by itself
  pub leaves : Encoding → Ty → Val → ℕ
  leaves e (scalar_type s) v = 1
  leaves e (array_type a) v = array_leaves (is_whole e a) v
  leaves e (group_type ts) (group vs) = fields_leaves e ts vs
  leaves e (items_type c t) (items vs) = suc (of_each (leaves e t) vs)
  leaves e (choice_type s arms) (arm n v) = suc (arm_leaves e arms n v)
  leaves e (maybe_type t) absent = 1
  leaves e (maybe_type t) (present v) = suc (leaves e t v)
  leaves e _ _ = 0

  -- those of fields
  pub fields_leaves : Encoding → Tys → Vals → ℕ
  fields_leaves e (field t ts) (val v vs) = leaves e t v + fields_leaves e ts vs
  fields_leaves e _ _ = 0

  -- those of the arm of a number
  pub arm_leaves : Encoding → Arms → ℤ → Val → ℕ
  arm_leaves e no_other n v = 0
  arm_leaves e (others t) n v = leaves e t v
  arm_leaves e (arm_type m t arms) n v = if int_eq n m then leaves e t v else arm_leaves e arms n v
