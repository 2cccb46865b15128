-- Octets worked out by hand: the laws alone would hold of other formats too.
use Rattle.std.proofs.Common.{◌≡◌, ℕ, pos, negsuc, List, [], ◌∷◌, map, true, false, refl}
use Rattle.mint.specs.declared.kind.Kind.TheVariants as kind
use Rattle.mint.specs.declared.kind.Count.TheVariants.{Exactly, AtMost, Any}
use Rattle.mint.specs.Types.{number, label, text, row_of, Ty, void_type, scalar_type, array_type}
use Rattle.mint.specs.Types.{group_type, items_type, choice_type, maybe_type, no_fields, field, no_other, others, arm_type}
use Rattle.mint.specs.Values.{Val, void, num, row, group, items, arm, absent, present, no_more, val}
use Rattle.wire_def.specs.declared.encoding.Encoding.{Encoding}
use Rattle.wire_def.specs.declared.encoding.Encoding.TheVariants.{Xdr, CdrBig, CdrLittle, Mach}
use Rattle.wire_def.specs.Scalars.{scalar_octets}
use Rattle.wire_def.specs.Described.{is_long, described_octets}
use Rattle.wire_def.specs.Arrays.{head_octets, count_octets, element_octets, elements_octets, array_octets}
use Rattle.wire_def.specs.Send.{send, send_fields, send_arm}

-- a position, a type, and a value of it
abbrev Sample : Type 0
Sample = ℕ × (Ty × Val)

-- a number of 32 bits in arm 1, else a text of at most 3 octets
abbrev tagged : Ty
tagged = choice_type (number kind.I16) (arm_type (pos 1) (scalar_type (number kind.U32)) (others (array_type (text (AtMost 3)))))

abbrev samples : List Sample
samples =
    -- I8, -2
    (1, (scalar_type (number kind.I8), num (negsuc 1))) ∷
    -- Octet
    (1, (scalar_type (number kind.Octet), num (pos 200))) ∷
    -- U8
    (3, (scalar_type (number kind.U8), num (pos 5))) ∷
    -- Char
    (0, (scalar_type (number kind.Char), num (pos 97))) ∷
    -- Bool
    (3, (scalar_type (number kind.Bool), num (pos 1))) ∷
    -- I16, -2
    (1, (scalar_type (number kind.I16), num (negsuc 1))) ∷
    -- U16, 0102
    (1, (scalar_type (number kind.U16), num (pos 258))) ∷
    -- I32, -2
    (2, (scalar_type (number kind.I32), num (negsuc 1))) ∷
    -- U32, deadbeef
    (2, (scalar_type (number kind.U32), num (pos 3735928559))) ∷
    -- I64, -2
    (4, (scalar_type (number kind.I64), num (negsuc 1))) ∷
    -- U64, 0102030405060708
    (4, (scalar_type (number kind.U64), num (pos 72623859790382856))) ∷
    -- a label
    (1, (scalar_type (label (pos 0 ∷ pos 3 ∷ [])), num (pos 3))) ∷
    -- a text of at most 8 octets
    (1, (array_type (text (AtMost 8)), row kind.Char (pos 97 ∷ pos 98 ∷ pos 99 ∷ []))) ∷
    -- a text without octets
    (0, (array_type (text Any), row kind.Char [])) ∷
    -- at most 8 octets
    (0, (array_type (row_of kind.Octet (AtMost 8)), row kind.Octet (pos 1 ∷ pos 2 ∷ pos 3 ∷ pos 4 ∷ pos 5 ∷ []))) ∷
    -- 2 octets
    (0, (array_type (row_of kind.Octet (Exactly 2)), row kind.Octet (pos 1 ∷ pos 2 ∷ []))) ∷
    -- any numbers of 16 bits
    (0, (array_type (row_of kind.I16 Any), row kind.I16 (pos 1 ∷ negsuc 1 ∷ []))) ∷
    -- at most 2 numbers of 64 bits
    (0, (array_type (row_of kind.I64 (AtMost 2)), row kind.I64 (pos 1 ∷ []))) ∷
    -- 1 number of 64 bits
    (4, (array_type (row_of kind.I64 (Exactly 1)), row kind.I64 (pos 1 ∷ []))) ∷
    -- no numbers of 64 bits
    (0, (array_type (row_of kind.I64 Any), row kind.I64 [])) ∷
    -- a list
    (0, (items_type Any (scalar_type (number kind.I16)), items (val (num (pos 7)) (val (num (pos 8)) no_more)))) ∷
    -- a list of 2
    (0, (items_type (Exactly 2) (scalar_type (number kind.I16)), items (val (num (pos 7)) (val (num (pos 8)) no_more)))) ∷
    -- a struct
    (
      0,
      (
        group_type (field (scalar_type (number kind.U8))
            (field (scalar_type (number kind.I64)) (field (scalar_type (number kind.U16)) no_fields))),
        group (val (num (pos 1)) (val (num (pos 4)) (val (num (pos 2)) no_more))),
      ),
    ) ∷
    -- an arm of a union
    (0, (tagged, arm (pos 1) (num (pos 9)))) ∷
    -- its default
    (0, (tagged, arm (pos 5) (row kind.Char (pos 97 ∷ [])))) ∷
    -- a union over labels, without data
    (0, (choice_type (label (pos 0 ∷ pos 1 ∷ [])) (arm_type (pos 1) void_type no_other), arm (pos 1) void)) ∷
    -- an optional value, absent
    (1, (maybe_type (scalar_type (number kind.I32)), absent)) ∷
    -- and present
    (1, (maybe_type (scalar_type (number kind.I32)), present (num (pos 7)))) ∷
    -- nothing
    (0, (void_type, void)) ∷
    []

abbrev sent : Encoding → List (List ℕ)
sent e = map (λ (s : Sample). send e s.1.0 s.0 s.1.1) samples

-- RFC 4506
xdr : sent Xdr ≡
    (255 ∷ 255 ∷ 255 ∷ 254 ∷ []) ∷
    (0 ∷ 0 ∷ 0 ∷ 200 ∷ []) ∷
    (0 ∷ 0 ∷ 0 ∷ 5 ∷ []) ∷
    (0 ∷ 0 ∷ 0 ∷ 97 ∷ []) ∷
    (0 ∷ 0 ∷ 0 ∷ 1 ∷ []) ∷
    (255 ∷ 255 ∷ 255 ∷ 254 ∷ []) ∷
    (0 ∷ 0 ∷ 1 ∷ 2 ∷ []) ∷
    (255 ∷ 255 ∷ 255 ∷ 254 ∷ []) ∷
    (222 ∷ 173 ∷ 190 ∷ 239 ∷ []) ∷
    (255 ∷ 255 ∷ 255 ∷ 255 ∷ 255 ∷ 255 ∷ 255 ∷ 254 ∷ []) ∷
    (1 ∷ 2 ∷ 3 ∷ 4 ∷ 5 ∷ 6 ∷ 7 ∷ 8 ∷ []) ∷
    (0 ∷ 0 ∷ 0 ∷ 3 ∷ []) ∷
    (0 ∷ 0 ∷ 0 ∷ 3 ∷ 97 ∷ 98 ∷ 99 ∷ 0 ∷ []) ∷
    (0 ∷ 0 ∷ 0 ∷ 0 ∷ []) ∷
    (0 ∷ 0 ∷ 0 ∷ 5 ∷ 1 ∷ 2 ∷ 3 ∷ 4 ∷ 5 ∷ 0 ∷ 0 ∷ 0 ∷ []) ∷
    (1 ∷ 2 ∷ 0 ∷ 0 ∷ []) ∷
    (0 ∷ 0 ∷ 0 ∷ 2 ∷ 0 ∷ 0 ∷ 0 ∷ 1 ∷ 255 ∷ 255 ∷ 255 ∷ 254 ∷ []) ∷
    (0 ∷ 0 ∷ 0 ∷ 1 ∷ 0 ∷ 0 ∷ 0 ∷ 0 ∷ 0 ∷ 0 ∷ 0 ∷ 1 ∷ []) ∷
    (0 ∷ 0 ∷ 0 ∷ 0 ∷ 0 ∷ 0 ∷ 0 ∷ 1 ∷ []) ∷
    (0 ∷ 0 ∷ 0 ∷ 0 ∷ []) ∷
    (0 ∷ 0 ∷ 0 ∷ 2 ∷ 0 ∷ 0 ∷ 0 ∷ 7 ∷ 0 ∷ 0 ∷ 0 ∷ 8 ∷ []) ∷
    (0 ∷ 0 ∷ 0 ∷ 7 ∷ 0 ∷ 0 ∷ 0 ∷ 8 ∷ []) ∷
    (0 ∷ 0 ∷ 0 ∷ 1 ∷ 0 ∷ 0 ∷ 0 ∷ 0 ∷ 0 ∷ 0 ∷ 0 ∷ 4 ∷ 0 ∷ 0 ∷ 0 ∷ 2 ∷ []) ∷
    (0 ∷ 0 ∷ 0 ∷ 1 ∷ 0 ∷ 0 ∷ 0 ∷ 9 ∷ []) ∷
    (0 ∷ 0 ∷ 0 ∷ 5 ∷ 0 ∷ 0 ∷ 0 ∷ 1 ∷ 97 ∷ 0 ∷ 0 ∷ 0 ∷ []) ∷
    (0 ∷ 0 ∷ 0 ∷ 1 ∷ []) ∷
    (0 ∷ 0 ∷ 0 ∷ 0 ∷ []) ∷
    (0 ∷ 0 ∷ 0 ∷ 1 ∷ 0 ∷ 0 ∷ 0 ∷ 7 ∷ []) ∷
    [] ∷
    []
unfolding send send_fields send_arm array_octets head_octets described_octets count_octets elements_octets element_octets scalar_octets
xdr = refl

-- gaps before numbers
cdr_big : sent CdrBig ≡
    (254 ∷ []) ∷
    (200 ∷ []) ∷
    (5 ∷ []) ∷
    (97 ∷ []) ∷
    (1 ∷ []) ∷
    (0 ∷ 255 ∷ 254 ∷ []) ∷
    (0 ∷ 1 ∷ 2 ∷ []) ∷
    (0 ∷ 0 ∷ 255 ∷ 255 ∷ 255 ∷ 254 ∷ []) ∷
    (0 ∷ 0 ∷ 222 ∷ 173 ∷ 190 ∷ 239 ∷ []) ∷
    (0 ∷ 0 ∷ 0 ∷ 0 ∷ 255 ∷ 255 ∷ 255 ∷ 255 ∷ 255 ∷ 255 ∷ 255 ∷ 254 ∷ []) ∷
    (0 ∷ 0 ∷ 0 ∷ 0 ∷ 1 ∷ 2 ∷ 3 ∷ 4 ∷ 5 ∷ 6 ∷ 7 ∷ 8 ∷ []) ∷
    (0 ∷ 0 ∷ 0 ∷ 0 ∷ 0 ∷ 0 ∷ 3 ∷ []) ∷
    (0 ∷ 0 ∷ 0 ∷ 0 ∷ 0 ∷ 0 ∷ 4 ∷ 97 ∷ 98 ∷ 99 ∷ 0 ∷ []) ∷
    (0 ∷ 0 ∷ 0 ∷ 1 ∷ 0 ∷ []) ∷
    (0 ∷ 0 ∷ 0 ∷ 5 ∷ 1 ∷ 2 ∷ 3 ∷ 4 ∷ 5 ∷ []) ∷
    (1 ∷ 2 ∷ []) ∷
    (0 ∷ 0 ∷ 0 ∷ 2 ∷ 0 ∷ 1 ∷ 255 ∷ 254 ∷ []) ∷
    (0 ∷ 0 ∷ 0 ∷ 1 ∷ 0 ∷ 0 ∷ 0 ∷ 0 ∷ 0 ∷ 0 ∷ 0 ∷ 0 ∷ 0 ∷ 0 ∷ 0 ∷ 1 ∷ []) ∷
    (0 ∷ 0 ∷ 0 ∷ 0 ∷ 0 ∷ 0 ∷ 0 ∷ 0 ∷ 0 ∷ 0 ∷ 0 ∷ 1 ∷ []) ∷
    (0 ∷ 0 ∷ 0 ∷ 0 ∷ []) ∷
    (0 ∷ 0 ∷ 0 ∷ 2 ∷ 0 ∷ 7 ∷ 0 ∷ 8 ∷ []) ∷
    (0 ∷ 7 ∷ 0 ∷ 8 ∷ []) ∷
    (1 ∷ 0 ∷ 0 ∷ 0 ∷ 0 ∷ 0 ∷ 0 ∷ 0 ∷ 0 ∷ 0 ∷ 0 ∷ 0 ∷ 0 ∷ 0 ∷ 0 ∷ 4 ∷ 0 ∷ 2 ∷ []) ∷
    (0 ∷ 1 ∷ 0 ∷ 0 ∷ 0 ∷ 0 ∷ 0 ∷ 9 ∷ []) ∷
    (0 ∷ 5 ∷ 0 ∷ 0 ∷ 0 ∷ 0 ∷ 0 ∷ 2 ∷ 97 ∷ 0 ∷ []) ∷
    (0 ∷ 0 ∷ 0 ∷ 1 ∷ []) ∷
    (0 ∷ []) ∷
    (1 ∷ 0 ∷ 0 ∷ 0 ∷ 0 ∷ 0 ∷ 7 ∷ []) ∷
    [] ∷
    []
unfolding send send_fields send_arm array_octets head_octets described_octets count_octets elements_octets element_octets scalar_octets
cdr_big = refl

-- the same in the other order
cdr_little : sent CdrLittle ≡
    (254 ∷ []) ∷
    (200 ∷ []) ∷
    (5 ∷ []) ∷
    (97 ∷ []) ∷
    (1 ∷ []) ∷
    (0 ∷ 254 ∷ 255 ∷ []) ∷
    (0 ∷ 2 ∷ 1 ∷ []) ∷
    (0 ∷ 0 ∷ 254 ∷ 255 ∷ 255 ∷ 255 ∷ []) ∷
    (0 ∷ 0 ∷ 239 ∷ 190 ∷ 173 ∷ 222 ∷ []) ∷
    (0 ∷ 0 ∷ 0 ∷ 0 ∷ 254 ∷ 255 ∷ 255 ∷ 255 ∷ 255 ∷ 255 ∷ 255 ∷ 255 ∷ []) ∷
    (0 ∷ 0 ∷ 0 ∷ 0 ∷ 8 ∷ 7 ∷ 6 ∷ 5 ∷ 4 ∷ 3 ∷ 2 ∷ 1 ∷ []) ∷
    (0 ∷ 0 ∷ 0 ∷ 3 ∷ 0 ∷ 0 ∷ 0 ∷ []) ∷
    (0 ∷ 0 ∷ 0 ∷ 4 ∷ 0 ∷ 0 ∷ 0 ∷ 97 ∷ 98 ∷ 99 ∷ 0 ∷ []) ∷
    (1 ∷ 0 ∷ 0 ∷ 0 ∷ 0 ∷ []) ∷
    (5 ∷ 0 ∷ 0 ∷ 0 ∷ 1 ∷ 2 ∷ 3 ∷ 4 ∷ 5 ∷ []) ∷
    (1 ∷ 2 ∷ []) ∷
    (2 ∷ 0 ∷ 0 ∷ 0 ∷ 1 ∷ 0 ∷ 254 ∷ 255 ∷ []) ∷
    (1 ∷ 0 ∷ 0 ∷ 0 ∷ 0 ∷ 0 ∷ 0 ∷ 0 ∷ 1 ∷ 0 ∷ 0 ∷ 0 ∷ 0 ∷ 0 ∷ 0 ∷ 0 ∷ []) ∷
    (0 ∷ 0 ∷ 0 ∷ 0 ∷ 1 ∷ 0 ∷ 0 ∷ 0 ∷ 0 ∷ 0 ∷ 0 ∷ 0 ∷ []) ∷
    (0 ∷ 0 ∷ 0 ∷ 0 ∷ []) ∷
    (2 ∷ 0 ∷ 0 ∷ 0 ∷ 7 ∷ 0 ∷ 8 ∷ 0 ∷ []) ∷
    (7 ∷ 0 ∷ 8 ∷ 0 ∷ []) ∷
    (1 ∷ 0 ∷ 0 ∷ 0 ∷ 0 ∷ 0 ∷ 0 ∷ 0 ∷ 4 ∷ 0 ∷ 0 ∷ 0 ∷ 0 ∷ 0 ∷ 0 ∷ 0 ∷ 2 ∷ 0 ∷ []) ∷
    (1 ∷ 0 ∷ 0 ∷ 0 ∷ 9 ∷ 0 ∷ 0 ∷ 0 ∷ []) ∷
    (5 ∷ 0 ∷ 0 ∷ 0 ∷ 2 ∷ 0 ∷ 0 ∷ 0 ∷ 97 ∷ 0 ∷ []) ∷
    (1 ∷ 0 ∷ 0 ∷ 0 ∷ []) ∷
    (0 ∷ []) ∷
    (1 ∷ 0 ∷ 0 ∷ 7 ∷ 0 ∷ 0 ∷ 0 ∷ []) ∷
    [] ∷
    []
unfolding send send_fields send_arm array_octets head_octets described_octets count_octets elements_octets element_octets scalar_octets
cdr_little = refl

-- descriptors, numbers, and octets up to a multiple of 4
mach : sent Mach ≡
    (9 ∷ 8 ∷ 1 ∷ 16 ∷ 254 ∷ 0 ∷ 0 ∷ 0 ∷ []) ∷
    (9 ∷ 8 ∷ 1 ∷ 16 ∷ 200 ∷ 0 ∷ 0 ∷ 0 ∷ []) ∷
    (9 ∷ 8 ∷ 1 ∷ 16 ∷ 5 ∷ 0 ∷ 0 ∷ 0 ∷ []) ∷
    (8 ∷ 8 ∷ 1 ∷ 16 ∷ 97 ∷ 0 ∷ 0 ∷ 0 ∷ []) ∷
    (2 ∷ 32 ∷ 1 ∷ 16 ∷ 1 ∷ 0 ∷ 0 ∷ 0 ∷ []) ∷
    (1 ∷ 16 ∷ 1 ∷ 16 ∷ 254 ∷ 255 ∷ 0 ∷ 0 ∷ []) ∷
    (1 ∷ 16 ∷ 1 ∷ 16 ∷ 2 ∷ 1 ∷ 0 ∷ 0 ∷ []) ∷
    (2 ∷ 32 ∷ 1 ∷ 16 ∷ 254 ∷ 255 ∷ 255 ∷ 255 ∷ []) ∷
    (2 ∷ 32 ∷ 1 ∷ 16 ∷ 239 ∷ 190 ∷ 173 ∷ 222 ∷ []) ∷
    (2 ∷ 32 ∷ 2 ∷ 16 ∷ 254 ∷ 255 ∷ 255 ∷ 255 ∷ 255 ∷ 255 ∷ 255 ∷ 255 ∷ []) ∷
    (2 ∷ 32 ∷ 2 ∷ 16 ∷ 8 ∷ 7 ∷ 6 ∷ 5 ∷ 4 ∷ 3 ∷ 2 ∷ 1 ∷ []) ∷
    (2 ∷ 32 ∷ 1 ∷ 16 ∷ 3 ∷ 0 ∷ 0 ∷ 0 ∷ []) ∷
    (8 ∷ 8 ∷ 3 ∷ 16 ∷ 97 ∷ 98 ∷ 99 ∷ 0 ∷ []) ∷
    (0 ∷ 0 ∷ 0 ∷ 48 ∷ 8 ∷ 0 ∷ 8 ∷ 0 ∷ 0 ∷ 0 ∷ 0 ∷ 0 ∷ []) ∷
    (9 ∷ 8 ∷ 5 ∷ 16 ∷ 1 ∷ 2 ∷ 3 ∷ 4 ∷ 5 ∷ 0 ∷ 0 ∷ 0 ∷ []) ∷
    (9 ∷ 8 ∷ 2 ∷ 16 ∷ 1 ∷ 2 ∷ 0 ∷ 0 ∷ []) ∷
    (0 ∷ 0 ∷ 0 ∷ 48 ∷ 1 ∷ 0 ∷ 16 ∷ 0 ∷ 2 ∷ 0 ∷ 0 ∷ 0 ∷ 1 ∷ 0 ∷ 254 ∷ 255 ∷ []) ∷
    (2 ∷ 32 ∷ 2 ∷ 16 ∷ 1 ∷ 0 ∷ 0 ∷ 0 ∷ 0 ∷ 0 ∷ 0 ∷ 0 ∷ []) ∷
    (2 ∷ 32 ∷ 2 ∷ 16 ∷ 1 ∷ 0 ∷ 0 ∷ 0 ∷ 0 ∷ 0 ∷ 0 ∷ 0 ∷ []) ∷
    (0 ∷ 0 ∷ 0 ∷ 48 ∷ 2 ∷ 0 ∷ 32 ∷ 0 ∷ 0 ∷ 0 ∷ 0 ∷ 0 ∷ []) ∷
    (2 ∷ 32 ∷ 1 ∷ 16 ∷ 2 ∷ 0 ∷ 0 ∷ 0 ∷ 1 ∷ 16 ∷ 1 ∷ 16 ∷ 7 ∷ 0 ∷ 0 ∷ 0 ∷ 1 ∷ 16 ∷ 1 ∷ 16 ∷ 8 ∷ 0 ∷ 0 ∷ 0 ∷ []) ∷
    (1 ∷ 16 ∷ 1 ∷ 16 ∷ 7 ∷ 0 ∷ 0 ∷ 0 ∷ 1 ∷ 16 ∷ 1 ∷ 16 ∷ 8 ∷ 0 ∷ 0 ∷ 0 ∷ []) ∷
    (9 ∷ 8 ∷ 1 ∷ 16 ∷ 1 ∷ 0 ∷ 0 ∷ 0 ∷ 2 ∷ 32 ∷ 2 ∷ 16 ∷ 4 ∷ 0 ∷ 0 ∷ 0 ∷ 0 ∷ 0 ∷ 0 ∷ 0 ∷ 1 ∷ 16 ∷ 1 ∷ 16 ∷ 2 ∷ 0 ∷ 0 ∷ 0 ∷ []) ∷
    (1 ∷ 16 ∷ 1 ∷ 16 ∷ 1 ∷ 0 ∷ 0 ∷ 0 ∷ 2 ∷ 32 ∷ 1 ∷ 16 ∷ 9 ∷ 0 ∷ 0 ∷ 0 ∷ []) ∷
    (1 ∷ 16 ∷ 1 ∷ 16 ∷ 5 ∷ 0 ∷ 0 ∷ 0 ∷ 8 ∷ 8 ∷ 1 ∷ 16 ∷ 97 ∷ 0 ∷ 0 ∷ 0 ∷ []) ∷
    (2 ∷ 32 ∷ 1 ∷ 16 ∷ 1 ∷ 0 ∷ 0 ∷ 0 ∷ []) ∷
    (2 ∷ 32 ∷ 1 ∷ 16 ∷ 0 ∷ 0 ∷ 0 ∷ 0 ∷ []) ∷
    (2 ∷ 32 ∷ 1 ∷ 16 ∷ 1 ∷ 0 ∷ 0 ∷ 0 ∷ 2 ∷ 32 ∷ 1 ∷ 16 ∷ 7 ∷ 0 ∷ 0 ∷ 0 ∷ []) ∷
    [] ∷
    []
unfolding send send_fields send_arm array_octets head_octets described_octets count_octets elements_octets element_octets scalar_octets
mach = refl

-- the long form where there may be more than 4,095 units
forms : is_long (AtMost 4095) (number kind.U8) ∷ is_long (AtMost 4096) (number kind.U8) ∷ is_long (Exactly 2047) (number kind.I64)
    ∷ is_long (Exactly 2048) (number kind.I64) ∷ is_long Any (number kind.U8) ∷ []
    ≡ false ∷ true ∷ false ∷ true ∷ true ∷ []
forms = refl
