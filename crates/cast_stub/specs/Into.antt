-- What tests and reads do to a draft, from the octets at a place.
use Rattle.std.specs.Prelude.{ℕ, zero, suc, ◌+◌, ◌-◌, ◌*◌, ◌/◌, ◌%◌, ◌^◌, ℤ, pos, List, [], ◌∷◌, length, take, drop, max, Option, None, Some, Bool, true, false, nat_eq, nat_lt, nat_le, if◌then◌else◌, ◌&&◌, option_map}
use Rattle.std.specs.Int.{Width, w16, w32, from_le_bytes}
use Rattle.kit_base.specs.Causes.{raised}
use Rattle.mint.specs.declared.kind.Count.{Count}
use Rattle.mint.specs.declared.kind.Count.TheVariants.{Exactly, AtMost, Any}
use Rattle.mint.specs.Blank.{least}
use Rattle.mint.specs.Kinds.{in_range, is_letter, width}
use Rattle.mint.specs.Types.{Scalar, number, Array, text, row_of, Ty, scalar_type, array_type, items_type, choice_type, maybe_type, Arms}
use Rattle.mint.specs.Typed.{is_scalar}
use Rattle.mint.specs.Values.{num, row, absent}
use Rattle.wire_def.specs.declared.head.Order.{Order}
use Rattle.wire_def.specs.Scalars.{gap, is_signed, number_of}
use Rattle.wire_def.specs.Arrays.{count_of, kind_of}
use Rattle.wire_def.specs.Described.{is_marked}
use Rattle.wire_def.specs.Send.{flag}
use Rattle.wire_def.specs.Orders.{width_in, loaded}
use Rattle.cast_stub.specs.Steps.{is_width}
use Rattle.cast_stub.specs.Draft.{Draft, raw, digit, listed, lined, tagged, flagged, done, type_of_arm}
use Rattle.cast_stub.specs.Runs.{Place, Run, gives, refuses, strays, Going, Filler, then_run, if_some, if_passed}

-- ---- octets

-- the test that so many octets follow
abbrev pub needed : ℕ → Filler
needed n d s =
    if nat_lt (length s.left) n then refuses
    else gives d (record { pos = s.pos; left = s.left; near = max n s.near; tests = raised s.tests 1 })

-- octets are passed that are known to be there
abbrev pub passed : ℕ → Filler
passed n d s =
    if nat_le n s.near then gives d (record { pos = s.pos + n; left = drop n s.left; near = s.near - n; tests = s.tests })
    else strays

-- whether all octets are 0
abbrev pub all_zero : List ℕ → Bool
all_zero [] = true
all_zero (zero ∷ o) = all_zero o
all_zero (suc b ∷ o) = false

-- octets up to a multiple, any or zeros
abbrev pub skipped : (List ℕ → Bool) → ℕ → Filler
skipped test a d s =
    if is_width a
    then then_run (needed (gap s.pos a) d s) (λ d t. if test (take (gap s.pos a) t.left) then passed (gap s.pos a) d t else refuses)
    else refuses

-- ---- numbers

-- the number that octets at an offset hold
abbrev pub word_at : ℕ → ℕ → Order → Place → (Width → ℕ → Run Draft) → Run Draft
word_at off w o s f =
    if_passed (width_in w) (λ x. if nat_le (off + w) s.near then f x (loaded o x (take w (drop off s.left))) else strays)

-- whether a number is one that the row may hold, or an octet of a text
abbrev pub is_digit : Array → ℤ → Bool
is_digit (text c) n = is_letter n
is_digit (row_of k c) n = in_range k n

-- a number of a width for a scalar, of which a draft is made
abbrev pub scalar_into : Scalar → (ℤ → Option Draft) → Width → ℕ → Place → Run Draft
scalar_into t f x m s = if is_scalar t (number_of (is_signed t) x m) then if_passed (f (number_of (is_signed t) x m))
    (λ d. gives d s) else refuses

-- a number, or an element of a row or text
abbrev pub num_into : Width → ℕ → Filler
num_into x m (raw (scalar_type t)) s = scalar_into t (λ n. Some (done (num n))) x m s
num_into x m (digit a) s =
    if is_digit a (number_of (is_signed (number (kind_of a))) x m) then gives
    (done (num (number_of (is_signed (number (kind_of a))) x m))) s else refuses
num_into x m _ s = strays

-- the draft of a union whose number was read, if an arm has that number
abbrev pub arm_draft : Arms → ℤ → Option Draft
arm_draft arms n = option_map (tagged n) (type_of_arm arms n)

-- a discriminant that has an arm
abbrev pub tag_into : Width → ℕ → Filler
tag_into x m (raw (choice_type t arms)) s = scalar_into t (arm_draft arms) x m s
tag_into x m _ s = strays

-- the draft of an optional value: absent where the number is 0, else to be filled
abbrev pub flag_draft : Ty → ℤ → Option Draft
flag_draft t (pos zero) = Some (done absent)
flag_draft t _ = Some (flagged t)

-- whether an optional value is there
abbrev pub flag_into : Width → ℕ → Filler
flag_into x m (raw (maybe_type t)) s = scalar_into flag (flag_draft t) x m s
flag_into x m _ s = strays

-- the length whose multiple, raised, is the number
abbrev pub length_of : ℕ → ℕ → ℕ → Option ℕ
length_of mul add m =
    if nat_lt 0 mul && nat_eq ((m - add) / mul * mul + add) m then Some ((m - add) / mul) else None

-- whether a count allows a length
abbrev pub allows : Count → ℕ → Bool
allows (Exactly m) n = nat_eq n m
allows (AtMost m) n = nat_lt n 4294967296 && nat_le n m
allows Any n = nat_lt n 4294967296

-- a length that the count allows, of which a draft is made
abbrev pub length_into : Count → (ℕ → Draft) → ℕ → ℕ → ℕ → Place → Run Draft
length_into c f mul add m s = if_passed (length_of mul add m) (λ n. if allows c n then gives (f n) s else refuses)

-- the length of a list, row or text
abbrev pub count_into : ℕ → ℕ → ℕ → Filler
count_into mul add m (raw (items_type c t)) s = length_into c (listed t) mul add m s
count_into mul add m (raw (array_type a)) s = length_into (count_of a) (lined a) mul add m s
count_into mul add m _ s = strays

-- whether octets are the same
abbrev pub same_octets : List ℕ → List ℕ → Bool
same_octets [] [] = true
same_octets (a ∷ x) (b ∷ y) = nat_eq a b && same_octets x y
same_octets _ _ = false

-- ---- descriptors of Mach messages

-- the number that octets at an offset hold, the least significant octet first
abbrev pub little : Width → ℕ → ℕ → List ℕ → ℕ
little x off w o = from_le_bytes x (take w (drop off o))

-- the length of so many units, where name and size are those wanted; so many octets are passed
abbrev pub units_into : Bool → ℕ → ℕ → ℕ → Filler
units_into right mul many n d s = if right then then_run (count_into mul 0 many d s) (passed n) else refuses

-- the short form: name, size and number in the first word
abbrev pub short_into : ℕ → ℕ → ℕ → ℕ → Filler
short_into name size mul m d s = units_into (nat_eq (m % 256) name && nat_eq (m / 256 % 256) size) mul (m / 65536 % 4096) 4 d s

-- the long form: name and size in two octets each after the first word, and the number in four
abbrev pub long_into : ℕ → ℕ → ℕ → Filler
long_into name size mul d s =
    then_run (needed 12 d s)
    (λ x t.
    units_into (nat_eq (little w16 4 2 t.left) name && nat_eq (little w16 6 2 t.left) size) mul (little w32 8 4 t.left) 12 x t)

-- the form by the first word's highest four bits: long where 28 and 29 alone are set, short where 28 alone is
abbrev pub form_into : ℕ → ℕ → ℕ → ℕ → Filler
form_into name size mul m d s = if is_marked m then long_into name size mul d s else if nat_eq (m / 2 ^ 28) 1 then short_into name size
    mul m d s else refuses

-- a descriptor in either form, which gives the length
abbrev pub desc_into : ℕ → ℕ → ℕ → Filler
desc_into name size mul d s = then_run (needed 4 d s) (λ x t. form_into name size mul (little w32 0 4 t.left) x t)

-- ---- the numbers of a row as a block

-- so many numbers of a width, where each is one of the array's
abbrev pub numbers_at : Array → Order → Width → ℕ → ℕ → List ℕ → Option (List ℤ)
numbers_at a o x w zero os = Some []
numbers_at a o x w (suc n) os =
    if is_digit a (number_of (is_signed (number (kind_of a))) x (loaded o x (take w os)))
    then option_map
    (λ zs. number_of (is_signed (number (kind_of a))) x (loaded o x (take w os)) ∷ zs) (numbers_at a o x w n (drop w os)) else None

-- a row of so many numbers, each in so many octets, all of which are known to be there
abbrev pub fill_block : Order → ℕ → Array → ℕ → Going Draft
fill_block o w a n s =
    if_some (width_in w) (λ x. if nat_le (n * w) s.near
    then if_passed (numbers_at a o x w n s.left)
    (λ zs.
    gives (done (row (kind_of a) zs))
    (record { pos = s.pos + n * w; left = drop (n * w) s.left; near = s.near - n * w; tests = s.tests })) else strays)

-- the numbers of a row whose length is known, each in the octets of its kind, or in four
abbrev pub row_into : Order → Filler
row_into o (lined a n) s = fill_block o (width (kind_of a)) a n s
row_into o (raw (array_type a)) s = fill_block o (width (kind_of a)) a (least (count_of a)) s
row_into o _ s = strays

-- the same, each number in four octets
abbrev pub wide_into : Order → Filler
wide_into o (lined a n) s = fill_block o 4 a n s
wide_into o (raw (array_type a)) s = fill_block o 4 a (least (count_of a)) s
wide_into o _ s = strays
