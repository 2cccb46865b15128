-- Rows worked by hand: what single codes do with single values.
use Rattle.std.proofs.Common.{◌≡◌, ℕ, pos, negsuc, List, [], ◌∷◌, Option, Some, None, refl, true, inl, arith}
use Rattle.mint.specs.declared.kind.Kind.TheVariants.{Char, I16, I32, I64}
use Rattle.mint.specs.declared.kind.Count.TheVariants.{Any}
use Rattle.mint.specs.Types.{number, void_type, scalar_type, group_type, items_type, no_fields, field}
use Rattle.mint.specs.Row.{octets_of}
use Rattle.mint.specs.Values.{Val, void, num, row, group, items, arm, absent, present, no_more, val}
use Rattle.wire_def.specs.declared.head.Head.{Head}
use Rattle.wire_def.specs.declared.head.Order.TheVariants.{Big, Little}
use Rattle.cast_stub.specs.declared.put.HeadField.TheVariants.{Remote}
use Rattle.cast_stub.specs.declared.put.Put.TheVariants as put
use Rattle.cast_stub.specs.Parts.{on_some}
use Rattle.cast_stub.specs.Block.{Block, stop, ensure, ensure_row, align, chunk, row_copy, row_swap, row_wide, each, switch, if_there, patch, no_default, default, case}
use Rattle.cast_stub.specs.Steps.{Room, Pad, Stored, steps}
use Rattle.cast_stub.specs.Subs.{no_calls}
use Rattle.cast_stub.specs.Meaning.{wrote, Cost, costs, HasRoom}
use Rattle.cast_stub.specs.Follows.{own_put, Follows}
use Rattle.cast_stub.specs.PartTypes.{ty_at}
use Rattle.cast_stub.specs.Turned.{IsNumber}

-- id 1, remote port 258, local port 3
abbrev the_head : Head
the_head = record { id = 1; remote = 258; local = 3; wants = true; order = Big }

-- the octets from a position
abbrev octets : ℕ → Block → Val → Option (List ℕ)
octets p b v = on_some (steps no_calls the_head b v) (wrote p [])

abbrev spent : Block → Val → Option Cost
spent b v = on_some (steps no_calls the_head b v) (λ ss. Some (costs ss))

-- a count, and each number in four octets
abbrev numbers : Block
numbers = ensure 4 (chunk 4 (put.Count 0 [] 1 0 4 Big ∷ []) (ensure_row [] 4 0 (each [] (chunk 4 (put.Num 0 [] 4 Big ∷ []) stop) stop)))

abbrev seven_and_minus_two : Val
seven_and_minus_two = items (val (num (pos 7)) (val (num (negsuc 1)) no_more))

a_list : octets 0 numbers seven_and_minus_two ≡ Some (0 ∷ 0 ∷ 0 ∷ 2 ∷ 0 ∷ 0 ∷ 0 ∷ 7 ∷ 255 ∷ 255 ∷ 255 ∷ 254 ∷ [])
a_list = refl

its_cost : spent numbers seven_and_minus_two ≡ Some (record { checks = 2; moves = 3; stores = 3; rows = 0 })
its_cost = refl

-- a text as a Mach item: the descriptor of CHAR, 8 bits, 3 units; the octets; a zero
a_text : octets 0 (chunk 4 (put.Short 0 [] 8 8 1 ∷ []) (row_copy [] (align 4 stop))) (row Char (pos 97 ∷ pos 98 ∷ pos 99 ∷ []))
    ≡ Some (8 ∷ 8 ∷ 3 ∷ 16 ∷ 97 ∷ 98 ∷ 99 ∷ 0 ∷ [])
unfolding octets_of
a_text = refl

-- rows as a block: the image, each number turned, each number in four octets
two_numbers : octets 0 (row_copy [] (row_swap [] (row_wide [] Little stop))) (row I16 (pos 1 ∷ negsuc 1 ∷ []))
    ≡ Some (1 ∷ 0 ∷ 254 ∷ 255 ∷ 0 ∷ 1 ∷ 255 ∷ 254 ∷ 1 ∷ 0 ∷ 0 ∷ 0 ∷ 254 ∷ 255 ∷ 255 ∷ 255 ∷ [])
unfolding octets_of
two_numbers = refl

their_cost : spent (row_copy [] (row_swap [] (row_wide [] Little stop))) (row I16 (pos 1 ∷ negsuc 1 ∷ []))
    ≡ Some (record { checks = 0; moves = 1; stores = 2; rows = 2 })
their_cost = refl

-- the length so far, less 4, at octet 2 of a message that begins at 1
a_patch : octets 1 (chunk 6 (put.Const 0 (9 ∷ 0 ∷ 0 ∷ 0 ∷ 0 ∷ 9 ∷ []) ∷ []) (patch 2 4 Big stop)) void ≡ Some (9 ∷ 0 ∷ 0 ∷ 0 ∷ 3 ∷ 9 ∷ [])
a_patch = refl

a_negative_patch : octets 0 (chunk 4 (put.Const 0 (0 ∷ 0 ∷ 0 ∷ 0 ∷ []) ∷ []) (patch 0 6 Big stop)) void ≡ Some (255 ∷ 255 ∷ 255 ∷ 254 ∷ [])
a_negative_patch = refl

-- a place before the octets that this code appends
an_early_patch : octets 1 (chunk 6 (put.Const 0 (9 ∷ 0 ∷ 0 ∷ 0 ∷ 0 ∷ 9 ∷ []) ∷ []) (patch 0 4 Big stop)) void ≡ None
an_early_patch = refl

-- a field of the head, and a flag that stands over an earlier put
a_head : octets 0 (chunk 3 (put.Head 0 Remote 2 Little ∷ put.Const 1 (9 ∷ 9 ∷ []) ∷ put.Flag 2 (1 ∷ []) 1 Big ∷ []) stop)
    (group (val void (val (present void) no_more))) ≡ Some (2 ∷ 9 ∷ 1 ∷ [])
a_head = refl

-- arms by their numbers, and the last for all others
an_arm : octets 0
    (chunk 1 (put.Tag 0 [] 1 Big ∷ [])
    (switch [] (case (pos 1) (chunk 1 (put.Const 0 (5 ∷ []) ∷ []) stop) (default (chunk 1 (put.Num 0 [] 1 Big ∷ []) stop))) stop))
    (arm (pos 2) (num (pos 6))) ≡ Some (2 ∷ 6 ∷ [])
an_arm = refl

no_arm : octets 0 (switch [] (case (pos 1) stop no_default) stop) (arm (pos 2) void) ≡ None
no_arm = refl

nothing_there : octets 0 (if_there [] (chunk 1 (put.Const 0 (5 ∷ []) ∷ []) stop) stop) absent ≡ Some []
nothing_there = refl

-- what is undefined: an octet without a put, a put outside, a number that does not fit, another multiple
a_hole : octets 0 (chunk 2 (put.Const 0 (5 ∷ []) ∷ []) stop) void ≡ None
a_hole = refl

outside : octets 0 (chunk 1 (put.Const 0 (5 ∷ 5 ∷ []) ∷ []) stop) void ≡ None
outside = refl

too_wide : octets 0 (chunk 1 (put.Num 0 [] 1 Big ∷ []) stop) (num (pos 256)) ≡ None
too_wide = refl

too_low : octets 0 (chunk 1 (put.Num 0 [] 1 Big ∷ []) stop) (num (negsuc 128)) ≡ None
too_low = refl

too_many : octets 0 (chunk 4 (put.Short 0 [] 8 8 2048 ∷ []) stop) (row Char (pos 1 ∷ pos 2 ∷ [])) ≡ None
too_many = refl

wide_of_64 : octets 0 (row_wide [] Big stop) (row I64 (pos 4294967296 ∷ [])) ≡ None
wide_of_64 = refl

a_third : octets 0 (align 3 stop) void ≡ None
a_third = refl

no_field : octets 0 (chunk 4 (put.Num 0 (1 ∷ []) 4 Big ∷ []) stop) (group (val void no_more)) ≡ None
no_field = refl

-- room: the greater of two ensures counts, a gap is paid for, and the length of what is stored
enough : HasRoom 1 0 (Room 4 ∷ Room 2 ∷ Pad 2 ∷ Stored (1 ∷ 2 ∷ 3 ∷ []) 1 ∷ [])
enough = (omega arith, (omega arith, tt))

not_enough : HasRoom 1 0 (Room 3 ∷ Pad 2 ∷ Stored (1 ∷ 2 ∷ 3 ∷ []) 1 ∷ []) → ⊥
not_enough h = omega (arith, h.1.0)

-- the code of a list goes through its type, and four puts are too many for one number
in_order : Follows
    (λ k.
    None) (items_type Any (scalar_type (number I32))) 0 []
    (chunk 4 (put.Count 0 [] 1 0 4 Big ∷ []) (each [] (chunk 4 (put.Num 0 [] 4 Big ∷ []) stop) stop))
in_order = (
  chunk 4 (put.Count 0 [] 1 0 4 Big ∷ []) stop,
  chunk 4 (put.Num 0 [] 4 Big ∷ []) stop,
  refl,
  (1, refl, omega arith),
  inl (1, refl, omega arith),
)

-- a turn puts its number, aligned by itself; one of three octets has none, so that all its puts count
its_number : own_put (align 8 (chunk 8 (put.Num 0 [] 8 Big ∷ []) stop)) ≡ 1
its_number = refl

no_number : own_put (chunk 3 (put.Const 0 (0 ∷ []) ∷ put.Const 1 (0 ∷ []) ∷ put.Const 2 (0 ∷ []) ∷ []) stop) ≡ 0
no_number = refl

-- the type of the part at a path, and none after the last field or below a scalar
a_part_type : ty_at (1 ∷ 0 ∷ [])
    (group_type (field void_type (field (group_type (field (scalar_type (number I64)) no_fields)) no_fields)))
    ≡ Some (scalar_type (number I64))
a_part_type = refl

no_part_type : ty_at (1 ∷ []) (group_type (field void_type no_fields)) ≡ None
no_part_type = refl

nothing_below : ty_at (0 ∷ []) (scalar_type (number I64)) ≡ None
nothing_below = refl

-- a turn that is one number, and one of the other order
a_number : IsNumber (Some (4, Big)) (chunk 4 (put.Num 0 [] 4 Big ∷ []) stop)
a_number = refl

the_other_order : IsNumber (Some (4, Big)) (chunk 4 (put.Num 0 [] 4 Little ∷ []) stop) → ⊥
the_other_order h = cc
