-- Octets that are read, worked out by hand: the first fault and its place.
use Rattle.std.proofs.Common.{◌≡◌, ℕ, pos, List, [], ◌∷◌, map, refl}
use Rattle.mint.specs.declared.kind.Kind.TheVariants as kind
use Rattle.mint.specs.declared.kind.Count.TheVariants.{Exactly, AtMost, Any}
use Rattle.mint.specs.Types.{number, text, row_of, Ty, void_type, scalar_type}
use Rattle.mint.specs.Types.{array_type, items_type, choice_type, maybe_type, no_other, arm_type}
use Rattle.mint.specs.Values.{num, row}
use Rattle.wire_def.specs.declared.encoding.Encoding.{Encoding}
use Rattle.wire_def.specs.declared.encoding.Encoding.TheVariants.{Xdr, CdrBig, CdrLittle, Mach}
use Rattle.wire_def.specs.declared.fault.FaultKind.TheVariants.{Short, OverBound, BadValue, BadPad, BadText, BadItem}
use Rattle.wire_def.specs.Grammar.{got, stop}
use Rattle.wire_def.specs.Scalars.{read_scalar, read_word}
use Rattle.wire_def.specs.Lone.{read_any, read_desc}
use Rattle.wire_def.specs.Described.{read_described, read_first, read_rest, reported_before}
use Rattle.wire_def.specs.Arrays.{read_count, read_octet, read_zeros, read_element, read_head, read_tail, read_array}
use Rattle.wire_def.specs.Reading.{read, read_fields, read_arm}

-- octets from a position, read as a type
abbrev Try : Type 0
Try = Encoding × (Ty × (ℕ × List ℕ))

abbrev tries : List Try
tries =
    -- a number that is cut off: its first octet
    (Xdr, (scalar_type (number kind.U32), (4, (0 ∷ 0 ∷ 0 ∷ [])))) ∷
    -- after its gap
    (CdrBig, (scalar_type (number kind.U32), (1, (9 ∷ 9 ∷ 9 ∷ 0 ∷ 0 ∷ 0 ∷ [])))) ∷
    -- a descriptor
    (Mach, (scalar_type (number kind.U16), (24, (1 ∷ 16 ∷ 1 ∷ [])))) ∷
    -- after its descriptor
    (Mach, (scalar_type (number kind.U16), (24, (1 ∷ 16 ∷ 1 ∷ 16 ∷ 5 ∷ [])))) ∷
    -- an octet after it
    (Mach, (scalar_type (number kind.U16), (24, (1 ∷ 16 ∷ 1 ∷ 16 ∷ 5 ∷ 0 ∷ 0 ∷ [])))) ∷
    -- a long descriptor
    (Mach, (array_type (text (AtMost 8)), (24, (0 ∷ 0 ∷ 0 ∷ 48 ∷ 8 ∷ 0 ∷ [])))) ∷
    -- a count above its bound
    (Xdr, (array_type (text (AtMost 2)), (0, (0 ∷ 0 ∷ 0 ∷ 3 ∷ 97 ∷ 98 ∷ 99 ∷ 0 ∷ [])))) ∷
    -- less the octet 0 of the end
    (CdrBig, (array_type (text (AtMost 2)), (1, (9 ∷ 9 ∷ 9 ∷ 0 ∷ 0 ∷ 0 ∷ 4 ∷ 97 ∷ 98 ∷ 99 ∷ 0 ∷ [])))) ∷
    -- at the descriptor
    (Mach, (array_type (text (AtMost 2)), (24, (8 ∷ 8 ∷ 3 ∷ 16 ∷ 97 ∷ 98 ∷ 99 ∷ 0 ∷ [])))) ∷
    -- after it, for a list
    (Mach, (items_type (AtMost 2) (scalar_type (number kind.I16)), (24, (2 ∷ 32 ∷ 1 ∷ 16 ∷ 3 ∷ 0 ∷ 0 ∷ 0 ∷ [])))) ∷
    -- no boolean
    (Xdr, (scalar_type (number kind.Bool), (0, (0 ∷ 0 ∷ 0 ∷ 2 ∷ [])))) ∷
    -- nor in an item
    (Mach, (scalar_type (number kind.Bool), (24, (2 ∷ 32 ∷ 1 ∷ 16 ∷ 2 ∷ 0 ∷ 0 ∷ 0 ∷ [])))) ∷
    -- no optional value
    (CdrBig, (maybe_type (scalar_type (number kind.I32)), (3, (2 ∷ [])))) ∷
    -- a discriminant without an arm, before the octets after it
    (Mach, (choice_type (number kind.U8) (arm_type (pos 1) void_type no_other), (24, (9 ∷ 8 ∷ 1 ∷ 16 ∷ 5 ∷ [])))) ∷
    -- a pad octet
    (Xdr, (array_type (text Any), (0, (0 ∷ 0 ∷ 0 ∷ 1 ∷ 97 ∷ 0 ∷ 7 ∷ 0 ∷ [])))) ∷
    -- an octet 0 inside
    (Xdr, (array_type (text Any), (0, (0 ∷ 0 ∷ 0 ∷ 2 ∷ 97 ∷ 0 ∷ 0 ∷ 0 ∷ [])))) ∷
    -- a length 0
    (CdrBig, (array_type (text Any), (0, (0 ∷ 0 ∷ 0 ∷ 0 ∷ [])))) ∷
    -- no octet 0 at the end
    (CdrLittle, (array_type (text Any), (0, (2 ∷ 0 ∷ 0 ∷ 0 ∷ 97 ∷ 98 ∷ [])))) ∷
    -- another descriptor
    (Mach, (scalar_type (number kind.I32), (24, (2 ∷ 32 ∷ 2 ∷ 16 ∷ 0 ∷ 0 ∷ 0 ∷ 0 ∷ [])))) ∷
    -- a fixed row in another form
    (Mach, (array_type (row_of kind.Octet (Exactly 2)), (24, (0 ∷ 0 ∷ 0 ∷ 48 ∷ 9 ∷ 0 ∷ 8 ∷ 0 ∷ 2 ∷ 0 ∷ 0 ∷ 0 ∷ 1 ∷ 2 ∷ 0 ∷ 0 ∷ [])))) ∷
    -- half a number
    (Mach, (array_type (row_of kind.I64 (AtMost 4)), (24, (2 ∷ 32 ∷ 3 ∷ 16 ∷ [])))) ∷
    -- a gap may have any octets
    (CdrBig, (scalar_type (number kind.U16), (1, (77 ∷ 1 ∷ 2 ∷ [])))) ∷
    -- so may the low bits of a long form, and what fills up
    (Mach, (array_type (text (AtMost 8)), (24, (5 ∷ 6 ∷ 7 ∷ 48 ∷ 8 ∷ 0 ∷ 8 ∷ 0 ∷ 1 ∷ 0 ∷ 0 ∷ 0 ∷ 97 ∷ 9 ∷ 9 ∷ 9 ∷ [])))) ∷
    []

faults : map (λ (s : Try). read s.0 s.1.0 s.1.1.0 s.1.1.1) tries ≡
    stop Short 4 ∷
    stop Short 4 ∷
    stop Short 24 ∷
    stop Short 28 ∷
    stop Short 31 ∷
    stop Short 24 ∷
    stop OverBound 0 ∷
    stop OverBound 4 ∷
    stop OverBound 24 ∷
    stop OverBound 28 ∷
    stop BadValue 0 ∷
    stop BadValue 28 ∷
    stop BadValue 3 ∷
    stop BadValue 28 ∷
    stop BadPad 6 ∷
    stop BadText 5 ∷
    stop BadText 0 ∷
    stop BadText 5 ∷
    stop BadItem 24 ∷
    stop BadItem 24 ∷
    stop BadItem 24 ∷
    got (num (pos 258)) 4 [] ∷
    got (row kind.Char (pos 97 ∷ [])) 40 [] ∷
    []
unfolding read read_fields read_arm read_array read_head read_tail read_element read_octet read_zeros read_count read_scalar read_word
    read_any read_desc read_described read_first read_rest reported_before
faults = refl
