-- Rows worked by hand: what single codes that receive give of single octets.
use Rattle.std.proofs.Common.{◌≡◌, ℕ, pos, negsuc, List, [], ◌∷◌, refl}
use Rattle.mint.specs.declared.kind.Kind.TheVariants.{I16, I32, I64}
use Rattle.mint.specs.declared.kind.Count.TheVariants.{Any, AtMost, Exactly}
use Rattle.mint.specs.Types.{Ty, number, row_of, scalar_type, array_type, items_type, group_type, no_fields, field}
use Rattle.mint.specs.Values.{Val, num, row, group, items, no_more, val}
use Rattle.wire_def.specs.declared.head.Order.TheVariants.{Big, Little}
use Rattle.cast_stub.specs.declared.recv.Get.TheVariants as get
use Rattle.cast_stub.specs.RecvBlock.{Recv, finish, need, need_row, skip_any, skip_zero, pass, desc, row_block, row_wide, each}
use Rattle.cast_stub.specs.Draft.{fresh}
use Rattle.cast_stub.specs.Fill.{fill, settled}
use Rattle.cast_stub.specs.Got.{Got, given, not_given, reported, no_calls, untested}

-- what a code gives of a type over octets, from a position
abbrev gives_of : Ty → Recv → ℕ → List ℕ → Got
gives_of t b p o = reported (settled (fill no_calls b (fresh t) (untested p o)))

-- a list of at most two structs of two numbers
abbrev pairs : Ty
pairs = items_type (AtMost 2) (group_type (field (scalar_type (number I32)) (field (scalar_type (number I32)) no_fields)))

abbrev pairs_code : Recv
pairs_code =
    need 4 (pass 4 (get.Count 0 [] 1 0 4 Big ∷ [])
    (each [] (need 4 (pass 4 (get.Num 0 (0 ∷ []) 4 Big ∷ []) (need 4 (pass 4 (get.Num 0 (1 ∷ []) 4 Big ∷ []) finish)))) finish))

a_list : gives_of pairs pairs_code 0 (0 ∷ 0 ∷ 0 ∷ 1 ∷ 0 ∷ 0 ∷ 0 ∷ 7 ∷ 255 ∷ 255 ∷ 255 ∷ 254 ∷ 9 ∷ [])
    ≡ given (items (val (group (val (num (pos 7)) (val (num (negsuc 1)) no_more))) no_more)) 12 3
a_list = refl

above_its_bound : gives_of pairs pairs_code 0 (0 ∷ 0 ∷ 0 ∷ 3 ∷ 0 ∷ 0 ∷ 0 ∷ 7 ∷ 255 ∷ 255 ∷ 255 ∷ 254 ∷ 9 ∷ []) ≡ not_given
above_its_bound = refl

cut : gives_of pairs pairs_code 0 (0 ∷ 0 ∷ 0 ∷ 1 ∷ 0 ∷ 0 ∷ 0 ∷ 7 ∷ 255 ∷ 255 ∷ 255 ∷ []) ≡ not_given
cut = refl

-- a get where no test was
untested_get : gives_of (scalar_type (number I32)) (pass 4 (get.Num 0 [] 4 Big ∷ []) finish) 0 (0 ∷ 0 ∷ 0 ∷ 7 ∷ []) ≡ not_given
untested_get = refl

-- a Mach row: the descriptor of INTEGER_32 in its short form, and two numbers as a block
abbrev numbers : Ty
numbers = array_type (row_of I32 Any)

abbrev item : Recv
item = desc [] 2 32 1 (need_row [] 4 0 (row_block [] Little finish))

short_form : gives_of numbers item 4 (2 ∷ 32 ∷ 2 ∷ 16 ∷ 7 ∷ 0 ∷ 0 ∷ 0 ∷ 254 ∷ 255 ∷ 255 ∷ 255 ∷ [])
    ≡ given (row I32 (pos 7 ∷ negsuc 1 ∷ [])) 16 2
short_form = refl

-- the long form, whose first word holds more that is not looked at
long_form : gives_of numbers item 0 (1 ∷ 2 ∷ 3 ∷ 48 ∷ 2 ∷ 0 ∷ 32 ∷ 0 ∷ 1 ∷ 0 ∷ 0 ∷ 0 ∷ 7 ∷ 0 ∷ 0 ∷ 0 ∷ [])
    ≡ given (row I32 (pos 7 ∷ [])) 16 3
long_form = refl

another_name : gives_of numbers item 0 (1 ∷ 32 ∷ 1 ∷ 16 ∷ 7 ∷ 0 ∷ 0 ∷ 0 ∷ []) ≡ not_given
another_name = refl

another_size : gives_of numbers item 0 (2 ∷ 16 ∷ 1 ∷ 16 ∷ 7 ∷ 0 ∷ 0 ∷ 0 ∷ []) ≡ not_given
another_size = refl

-- not inline, or with a bit that is to be clear
another_form : gives_of numbers item 0 (2 ∷ 32 ∷ 1 ∷ 80 ∷ 7 ∷ 0 ∷ 0 ∷ 0 ∷ []) ≡ not_given
another_form = refl

-- three units are not a whole number of 64-bit numbers
half_a_number : gives_of (array_type (row_of I64 Any)) (desc [] 2 32 2 (need_row [] 8 0 (row_block [] Little finish))) 0
    (2 ∷ 32 ∷ 3 ∷ 16 ∷ 7 ∷ 0 ∷ 0 ∷ 0 ∷ 0 ∷ 0 ∷ 0 ∷ 0 ∷ 0 ∷ 0 ∷ 0 ∷ 0 ∷ [])
    ≡ not_given
half_a_number = refl

-- short numbers in four octets each, which have to be in range
wide : gives_of (array_type (row_of I16 (Exactly 2))) (need 8 (row_wide [] Big finish)) 0 (0 ∷ 0 ∷ 0 ∷ 7 ∷ 255 ∷ 255 ∷ 255 ∷ 254 ∷ [])
    ≡ given (row I16 (pos 7 ∷ negsuc 1 ∷ [])) 8 1
wide = refl

too_wide : gives_of (array_type (row_of I16 (Exactly 1))) (need 4 (row_wide [] Big finish)) 0 (0 ∷ 1 ∷ 0 ∷ 7 ∷ []) ≡ not_given
too_wide = refl

-- octets up to a multiple of 4 from octet 5 on, one test
skipped_zeros : gives_of (group_type no_fields) (skip_zero 4 finish) 5 (0 ∷ 0 ∷ 0 ∷ []) ≡ given (group no_more) 8 1
skipped_zeros = refl

no_zero : gives_of (group_type no_fields) (skip_zero 4 finish) 5 (0 ∷ 1 ∷ 0 ∷ []) ≡ not_given
no_zero = refl

any_octets : gives_of (group_type no_fields) (skip_any 4 finish) 5 (0 ∷ 1 ∷ 0 ∷ []) ≡ given (group no_more) 8 1
any_octets = refl
