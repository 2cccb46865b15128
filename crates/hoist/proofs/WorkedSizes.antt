-- Sizes over XDR, worked out by hand.
use Rattle.std.proofs.Common.{◌≡◌, ℕ, pos, Option, Some, None, refl, Bool, true, false}
use Rattle.mint.specs.declared.kind.Kind.TheVariants.{I16, I32, I64, Octet}
use Rattle.mint.specs.declared.kind.Count.{Count}
use Rattle.mint.specs.declared.kind.Count.TheVariants.{Exactly, AtMost, Any}
use Rattle.mint.specs.Types.{Ty, void_type, number, scalar_type, text, row_of, array_type, group_type, items_type, choice_type, maybe_type, field, no_fields, arm_type, others}
use Rattle.wire_def.specs.declared.encoding.Encoding.TheVariants.{Xdr, CdrBig}
use Rattle.storage_class.specs.Classing.{length_at, run}
use Rattle.hoist.specs.SpanSizes.{sizes}

abbrev int : Ty
int = scalar_type (number I32)

abbrev hyper : Ty
hyper = scalar_type (number I64)

abbrev opaque : Count → Ty
opaque c = array_type (row_of Octet c)

abbrev string : Count → Ty
string c = array_type (text c)

-- under 1 a number of 4 octets, else one of 8
abbrev int_or_hyper : Ty
int_or_hyper = choice_type (number I32) (arm_type (pos 1) int (others hyper))

-- the greatest length, whether it is fixed, and the octets before it
abbrev Has : Ty → Option ℕ → Bool → ℕ → Type 0
Has t top fixed front = let z = sizes Xdr in (z.top t ≡ top) × (z.fixed t ≡ fixed) × (z.front t ≡ front)

nothing : Has void_type (Some 0) true 0
nothing = (refl, refl, refl)

-- a number of 2 octets travels in 4
short : Has (scalar_type (number I16)) (Some 4) true 0
short = (refl, refl, refl)

-- 4 + 8
two_numbers : Has (group_type (field int (field hyper no_fields))) (Some 12) true 0
unfolding length_at
two_numbers = (refl, refl, refl)

-- a count, and 3 * 4
up_to_three : Has (items_type (AtMost 3) int) (Some 16) false 4
up_to_three = (refl, refl, refl)

-- 3 * 8, and no count
three : Has (items_type (Exactly 3) hyper) (Some 24) true 0
unfolding length_at run
three = (refl, refl, refl)

-- 2 * (4 + 3 * 4)
two_lists : Has (items_type (Exactly 2) (items_type (AtMost 3) int)) (Some 32) false 0
two_lists = (refl, refl, refl)

any_list : Has (items_type Any int) None false 4
any_list = (refl, refl, refl)

-- 5 octets, and 3 after them
five_octets : Has (opaque (Exactly 5)) (Some 8) true 0
five_octets = (refl, refl, refl)

-- a count, 5 octets, and 3 after them
up_to_five : Has (string (AtMost 5)) (Some 12) false 4
up_to_five = (refl, refl, refl)

any_string : Has (string Any) None false 4
any_string = (refl, refl, refl)

-- a row of numbers of 2 octets: 3 * 4
three_shorts : Has (array_type (row_of I16 (Exactly 3))) (Some 12) true 0
three_shorts = (refl, refl, refl)

-- a tag, and the longer arm
either_number : Has int_or_hyper (Some 12) false 4
either_number = (refl, refl, refl)

-- a flag, and 8 octets or none
hyper_or_none : Has (maybe_type hyper) (Some 12) false 4
hyper_or_none = (refl, refl, refl)

-- what ends in a list without bound has none
a_number_and_any : Has (group_type (field int (field (string Any) no_fields))) None false 0
a_number_and_any = (refl, refl, refl)

-- lengths are reported up to 4,294,967,295: the last multiple of 4 below it
most_reported : Has (opaque (Exactly 4294967292)) (Some 4294967292) true 0
most_reported = (refl, refl, refl)

-- 3 zeros after the octets make it 4,294,967,296
too_long : Has (opaque (Exactly 4294967293)) None false 0
too_long = (refl, refl, refl)

-- over CDR two numbers of 64 bits have 23 octets at most, though each has 15
abbrev two_hypers : Ty
two_hypers = group_type (field hyper (field hyper no_fields))

two_in_cdr : ((sizes CdrBig).top two_hypers ≡ Some 23) × ((sizes CdrBig).top hyper ≡ Some 15) × ((sizes CdrBig).weight two_hypers ≡ 15)
    × ((sizes CdrBig).weight hyper ≡ 7)
unfolding length_at
two_in_cdr = (refl, refl, refl, refl)
