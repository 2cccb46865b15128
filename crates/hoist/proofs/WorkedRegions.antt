-- Regions over CDR and in Mach messages, counted by hand.
use Rattle.std.proofs.Common.{◌≡◌, ℕ, zero, suc, pos, [], Some, refl}
use Rattle.mint.specs.declared.kind.Kind.TheVariants.{I32, I64, Octet, Char}
use Rattle.mint.specs.declared.kind.Count.{Count}
use Rattle.mint.specs.declared.kind.Count.TheVariants.{Exactly, AtMost}
use Rattle.mint.specs.Types.{Ty, number, scalar_type, text, row_of, array_type, group_type, Tys, field, no_fields}
use Rattle.mint.specs.Values.{Val, num, row, group, Vals, val, no_more}
use Rattle.wire_def.specs.declared.encoding.Encoding.TheVariants.{CdrBig, Mach}
use Rattle.hoist.specs.Regions.{regions}
use Rattle.hoist.specs.SpanSizes.{sizes}

abbrev hyper : Ty
hyper = scalar_type (number I64)

abbrev string : ℕ → Ty
string n = array_type (text (AtMost n))

abbrev opaque : ℕ → Ty
opaque n = array_type (row_of Octet (AtMost n))

abbrev ints : Count → Ty
ints c = array_type (row_of I32 c)

-- so many numbers, and no more fields
abbrev hypers : ℕ → Tys
hypers zero = no_fields
hypers (suc n) = field hyper (hypers n)

-- so many zeros
abbrev zeros : ℕ → Vals
zeros zero = no_more
zeros (suc n) = val (num (pos 0)) (zeros n)

-- ---- over CDR

-- 7 + 10 + 1, and twice 15: what follows what is not fixed is not taken together
text_and_two : (sizes CdrBig).top (group_type (field (string 10) (hypers 2))) ≡ Some 48
text_and_two = refl

-- a text of 8,008 octets, and twenty numbers of 15
abbrev named : Ty
named = group_type (field (string 8000) (hypers 20))

abbrev no_text : Val
no_text = row Char []

-- 44 + 8008 + 9 * 15 is 8,187, and 11 * 15 + 8000 is 8,165
behind_a_head : regions (sizes CdrBig) 44 (group_type (field named (field (string 7992) no_fields)))
    (group (val (group (val no_text (zeros 20))) (val no_text no_more))) ≡ 2
behind_a_head = refl

-- ---- in Mach messages

-- rows of 4,100 octets and of 4 more than the second, and a row that is not small
abbrev rows : ℕ → Count → Ty
rows n c = group_type (field (opaque 4095) (field (opaque n) (field (ints c) no_fields)))

abbrev no_rows : Val
no_rows = group (val (row Octet []) (val (row Octet []) (val (row I32 []) no_more)))

-- 24 + 4100 + 4064 and a descriptor of 4 are 8,192
up_to_a_row : regions (sizes Mach) 24 (rows 4060 (AtMost 4000)) no_rows ≡ 2
up_to_a_row = refl

-- a row of a fixed number has a descriptor too: 24 + 4100 + 4068 are 8,192 already
up_to_a_fixed_row : regions (sizes Mach) 24 (rows 4064 (Exactly 4000)) no_rows ≡ 3
up_to_a_fixed_row = refl
