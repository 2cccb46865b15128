-- Codes hoisted by hand, and regions counted by hand.
use Rattle.std.proofs.Common.{◌≡◌, ℕ, pos, List, [], ◌∷◌, Option, Some, None, refl, Bool, true, false}
use Rattle.mint.specs.declared.kind.Kind.TheVariants.{I32}
use Rattle.mint.specs.declared.kind.Count.TheVariants.{Any}
use Rattle.mint.specs.Types.{Ty, void_type, number, scalar_type, group_type, items_type, maybe_type, field, no_fields}
use Rattle.mint.specs.Values.{num, items, no_more, val}
use Rattle.wire_def.specs.declared.head.Order.TheVariants.{Big}
use Rattle.cast_stub.specs.declared.put.Put.TheVariants as put
use Rattle.cast_stub.specs.Block.{Block, stop, ensure, ensure_row, chunk, each, if_there}
use Rattle.hoist.specs.Hoisted.{closed, hoisted}
use Rattle.hoist.specs.Regions.{Sizes, roles, regions, groups, small_part, row_part, break_part}

abbrev int : Ty
int = scalar_type (number I32)

abbrev list : Ty → Ty
list t = items_type Any t

-- numbers of four octets after counts and flags of four; every list is unbounded
abbrev top : Ty → Option ℕ
top (scalar_type s) = Some 4
top (maybe_type (scalar_type s)) = Some 8
top void_type = Some 0
top _ = None

abbrev fixed : Ty → Bool
fixed (scalar_type s) = true
fixed _ = false

abbrev sizes : Sizes
sizes = record { top = top; fixed = fixed; front = λ t. 4; weight = λ t. 3 }

abbrev number_at : List ℕ → Block → Block
number_at p r = chunk 4 (put.Num 0 p 4 Big ∷ []) r

abbrev count_at : List ℕ → Block → Block
count_at p r = chunk 4 (put.Count 0 p 1 0 4 Big ∷ []) r

-- a number, and numbers after their count: all by one ensure
a_number_and_numbers : closed (hoisted (roles sizes) (group_type (field int (field (list int) no_fields)))
    (number_at (0 ∷ []) (count_at (1 ∷ []) (each (1 ∷ []) (number_at [] stop) stop))))
    ≡ ensure_row (1 ∷ []) 4 8 (number_at (0 ∷ []) (count_at (1 ∷ []) (each (1 ∷ []) (number_at [] stop) stop)))
a_number_and_numbers = refl

-- a number after a list: one more for the list's elements than for its turn
after_a_list : closed (hoisted (roles sizes) (group_type (field (list int) (field int no_fields)))
    (count_at (0 ∷ []) (each (0 ∷ []) (number_at [] stop) (number_at (1 ∷ []) stop))))
    ≡ ensure_row (0 ∷ []) 4 8 (count_at (0 ∷ []) (each (0 ∷ []) (number_at [] stop) (number_at (1 ∷ []) stop)))
after_a_list = refl

-- lists of lists: each element by itself
lists : closed (hoisted (roles sizes) (list (list int)) (count_at [] (each [] (count_at [] (each [] (number_at [] stop) stop)) stop)))
    ≡ ensure 4 (count_at [] (each [] (ensure_row [] 4 4 (count_at [] (each [] (number_at [] stop) stop))) stop))
lists = refl

-- a number that may be there is a small part
a_number_or_none : closed
    (hoisted (roles sizes) (maybe_type int) (chunk 4 (put.Flag 0 [] 4 Big ∷ []) (if_there [] (number_at [] stop) stop)))
    ≡ ensure 8 (chunk 4 (put.Flag 0 [] 4 Big ∷ []) (if_there [] (number_at [] stop) stop))
a_number_or_none = refl

-- the lead and the count together, and the numbers
one_list : regions sizes 40 (list int) (items (val (num (pos 7)) no_more)) ≡ 2
one_list = refl

-- the count, and for each list its count and its numbers
two_lists : regions sizes 0 (list (list int)) (items (val (items no_more) (val (items no_more) no_more))) ≡ 5
two_lists = refl

-- as many together as fit
full_groups : groups None (small_part 4000 ∷ small_part 4192 ∷ small_part 1 ∷ []) ≡ 2
full_groups = refl

apart_groups : groups None (small_part 1 ∷ break_part ∷ small_part 1 ∷ row_part ∷ small_part 1 ∷ []) ≡ 4
apart_groups = refl
