-- Parts of a value, and the numbers that a put takes of them.
use Rattle.std.specs.Prelude.{ℕ, zero, suc, ℤ, pos, List, [], ◌∷◌, length, map, Option, None, Some}
use Rattle.mint.specs.Values.{Val, num, row, group, items, arm, absent, present, Vals, no_more, val, vals_of, count}

-- what a function gives of something, if it is there
abbrev pub on_some : {A B : Type 0} → Option A → (A → Option B) → Option B
on_some None f = None
on_some (Some a) f = f a

-- something is there
abbrev pub IsThere : {A : Type 0} → Option A → Type 0
IsThere None = ⊥
IsThere (Some a) = Unit {0}

-- the field of a number
abbrev pub field : ℕ → Vals → Option Val
field n no_more = None
field zero (val v vs) = Some v
field (suc n) (val v vs) = field n vs

-- the field of a number, of a value that is a struct
abbrev pub in_group : ℕ → Val → Option Val
in_group n (group vs) = field n vs
in_group n _ = None

-- the part at a path
abbrev pub at : List ℕ → Val → Option Val
at [] v = Some v
at (n ∷ p) v = on_some (in_group n v) (at p)

-- the values that a body goes over; an element of a row is its number
abbrev pub elements_in : Val → Option Vals
elements_in (items vs) = Some vs
elements_in (row k ns) = Some (vals_of (map num ns))
elements_in _ = None

-- how many elements there are
abbrev pub length_in : Val → Option ℕ
length_in (items vs) = Some (count vs)
length_in (row k ns) = Some (length ns)
length_in _ = None

-- the number that a value is
abbrev pub number_in : Val → Option ℤ
number_in (num n) = Some n
number_in _ = None

-- the number of an arm
abbrev pub tag_in : Val → Option ℤ
tag_in (arm n v) = Some n
tag_in _ = None

-- whether a value is there, as a number
abbrev pub flag_in : Val → Option ℤ
flag_in absent = Some (pos 0)
flag_in (present v) = Some (pos 1)
flag_in _ = None
