-- The value that a number makes for a type.
use Rattle.std.specs.Prelude.{ℕ, nat_lt, if◌then◌else◌, ◌==◌, ℤ, List, [], ◌∷◌}
use Rattle.std.specs.Ordering.{int_eq}
use Rattle.kit_base.specs.Limits.{heaviest_blank}
use Rattle.mint.specs.declared.kind.Kind.TheVariants as kind
use Rattle.mint.specs.Blank.{blank, blank_scalar}
use Rattle.mint.specs.Sound.{arm_numbers}
use Rattle.mint.specs.Types.{Array, text, row_of, Ty, void_type, scalar_type, array_type, group_type, items_type, choice_type, maybe_type, Tys, no_fields, field, Arms, no_other, others, arm_type}
use Rattle.mint.specs.Values.{Val, void, num, row, group, items, arm, absent, present, vals_of, weight}
use Rattle.case_make.specs.Draws.{Drawn, drawn_as, drawing, several, drawn_number, drawn_one, drawn_scalar, drawn_length, drawn_letter}

-- so many as a draw says
abbrev pub as_many : {A : Type 0} → (ℕ → Drawn A) → Drawn ℕ → Drawn (List A)
as_many f d = several f d.value d.state

abbrev pub drawn_array : Array → ℕ → Drawn Val
drawn_array (text c) s = drawn_as (row kind.Char) (as_many drawn_letter (drawn_length c s))
drawn_array (row_of k c) s = drawn_as (row k) (as_many (drawn_number k) (drawn_length c s))

-- a value that may be there: it is where the number is 1
abbrev pub drawn_maybe : (ℕ → Drawn Val) → Drawn ℕ → Drawn Val
drawn_maybe f d = if d.value == 1 then drawn_as present (f d.state) else record { value = absent; state = d.state }

-- a discriminant, and the value that is drawn for it
abbrev pub drawn_tagged : (ℤ → ℕ → Drawn Val) → Drawn ℤ → Drawn Val
drawn_tagged f d = drawn_as (arm d.value) (f d.value d.state)

-- a value of a type, drawn from left to right
abbrev mutual
  pub drawn : Ty → ℕ → Drawn Val
  drawn void_type s = record { value = void; state = s }
  drawn (scalar_type a) s = drawn_as num (drawn_scalar a s)
  drawn (array_type a) s = drawn_array a s
  drawn (group_type ts) s = drawn_as (λ vs. group (vals_of vs)) (drawn_fields ts s)
  drawn (items_type c t) s = drawn_as (λ vs. items (vals_of vs)) (as_many (drawn t) (drawn_length c s))
  drawn (choice_type a arms) s = drawn_tagged (drawn_arm arms) (drawn_one (blank_scalar a) (arm_numbers arms) s)
  drawn (maybe_type t) s = drawn_maybe (drawn t) (drawing 2 s)

  pub drawn_fields : Tys → ℕ → Drawn (List Val)
  drawn_fields no_fields s = record { value = []; state = s }
  drawn_fields (field t ts) s = drawn_as (λ vs. (drawn t s).value ∷ vs) (drawn_fields ts (drawn t s).state)

  -- a value of the arm of a number
  pub drawn_arm : Arms → ℤ → ℕ → Drawn Val
  drawn_arm no_other n s = record { value = void; state = s }
  drawn_arm (others t) n s = drawn t s
  drawn_arm (arm_type m t arms) n s = if int_eq n m then drawn t s else drawn_arm arms n s

-- the value that a number makes: what is drawn from it, or the blank value where that weighs more than 1,048,576
abbrev pub made : Ty → ℕ → Val
made t s = if nat_lt heaviest_blank (weight (drawn t s).value) then blank t else (drawn t s).value
