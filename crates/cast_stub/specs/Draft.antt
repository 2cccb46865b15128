-- A value that is being filled: what is known of it so far.
use Rattle.std.specs.Prelude.{ℕ, ℤ, length, Option, None, Some, option_map, if◌then◌else◌}
use Rattle.std.specs.Ordering.{int_eq}
use Rattle.mint.specs.Blank.{blank, least}
use Rattle.mint.specs.Types.{Array, Ty, array_type, group_type, items_type, Tys, no_fields, field, Arms, no_other, others, arm_type}
use Rattle.mint.specs.Values.{Val, row, group, items, Vals, no_more, val, count}
use Rattle.wire_def.specs.Arrays.{count_of}
use Rattle.cast_stub.specs.Parts.{on_some}

mutual
  pub data Draft : Type 0 where
    -- nothing was read of it: the blank value of a type
    raw : Ty → Draft
    -- a number of a row or text, not yet read
    digit : Array → Draft
    -- a list of a type's values, of which the length was read
    listed : Ty → ℕ → Draft
    -- a row or text, of which the length was read
    lined : Array → ℕ → Draft
    -- a union, of which the number was read, and the type of its arm
    tagged : ℤ → Ty → Draft
    -- an optional value that is there, of this type, not yet read
    flagged : Ty → Draft
    -- a value that was read
    done : Val → Draft
    -- a struct
    fields : Drafts → Draft

  pub data Drafts : Type 0 where
    no_draft : Drafts
    draft : Draft → Drafts → Drafts

-- the blank value of a type, its structs open
abbrev mutual
  pub fresh : Ty → Draft
  fresh (group_type ts) = fields (all_fresh ts)
  fresh t = raw t

  pub all_fresh : Tys → Drafts
  all_fresh no_fields = no_draft
  all_fresh (field t ts) = draft (fresh t) (all_fresh ts)

-- the value, where nothing in it waits to be filled
abbrev mutual
  pub settle : Draft → Option Val
  settle (raw t) = Some (blank t)
  settle (done v) = Some v
  settle (fields ds) = option_map group (settles ds)
  settle _ = None

  pub settles : Drafts → Option Vals
  settles no_draft = Some no_more
  settles (draft d ds) = on_some (settle d) (λ v. on_some (settles ds) (λ vs. Some (val v vs)))

-- how many elements a list, row or text has
abbrev pub length_in : Draft → Option ℕ
length_in (raw (items_type c t)) = Some (least c)
length_in (raw (array_type a)) = Some (least (count_of a))
length_in (listed t n) = Some n
length_in (lined a n) = Some n
length_in (done (items vs)) = Some (count vs)
length_in (done (row k ns)) = Some (length ns)
length_in _ = None

-- the type of the arm of a number, where there is one
abbrev pub type_of_arm : Arms → ℤ → Option Ty
type_of_arm no_other n = None
type_of_arm (others t) n = Some t
type_of_arm (arm_type m t arms) n = if int_eq n m then Some t else type_of_arm arms n
