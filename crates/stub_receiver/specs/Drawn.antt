-- What the draft of a machine means, over the nodes of a table.
use Rattle.std.specs.Prelude.{ℕ, List, [], ◌∷◌, map, ℤ, Option, None, Some, if◌then◌else◌, Bool, true}
use Rattle.mint.specs.declared.node.Node.{Node}
use Rattle.mint.specs.declared.kind.Count.{Count}
use Rattle.mint.specs.declared.kind.Count.TheVariants.{Any}
use Rattle.mint.specs.Types.{Scalar, number, Array, text, Ty, scalar_type, array_type, type_at}
use Rattle.mint.specs.Typed.{is_scalar}
use Rattle.std.specs.Int.{Width}
use Rattle.wire_def.specs.Scalars.{is_signed, number_of}
use Rattle.wire_def.specs.Arrays.{kind_of}
use Rattle.mint.specs.Values.{seen}
use Rattle.mint.specs.Row.{Numbers}
use Rattle.cast_stub.specs.Draft.{Draft, raw, digit, listed, lined, tagged, flagged, done, fields, Drafts, no_draft, draft}
use Rattle.cast_stub.specs.Into.{is_digit, allows}
use Rattle.stub_receiver.specs.declared.draft.Filling.{Filling, fold-Filling}
use Rattle.stub_receiver.specs.declared.draft.Filling.TheOpen.{Filling-F}

-- the row or text that a type is
abbrev pub array_of : Ty → Array
array_of (array_type a) = a
array_of _ = text Any

abbrev pub array_at : List Node → ℕ → Array
array_at nodes id = array_of (type_at nodes id)

abbrev pub drafts_of : List Draft → Drafts
drafts_of [] = no_draft
drafts_of (d ∷ ds) = draft d (drafts_of ds)

-- one level, with each draft inside already seen
abbrev pub drawn_level : List Node → Filling-F Draft → Draft
drawn_level nodes (Filling-F.Raw id) = raw (type_at nodes id)
drawn_level nodes (Filling-F.Digit id) = digit (array_at nodes id)
drawn_level nodes (Filling-F.Listed id n) = listed (type_at nodes id) n
drawn_level nodes (Filling-F.Lined id n) = lined (array_at nodes id) n
drawn_level nodes (Filling-F.Tagged n id) = tagged n (type_at nodes id)
drawn_level nodes (Filling-F.Flagged id) = flagged (type_at nodes id)
drawn_level nodes (Filling-F.Done v) = done (seen v)
drawn_level nodes (Filling-F.Fields ds) = fields (drafts_of ds.items)

unfoldable pub drawn : List Node → Filling → Draft
drawn nodes = fold-Filling Draft (drawn_level nodes)

abbrev pub all_drawn : List Node → List Filling → Drafts
all_drawn nodes ds = drafts_of (map (drawn nodes) ds)

-- ---- numbers of nodes

-- the scalar that a type is
abbrev pub scalar_in : Ty → Option Scalar
scalar_in (scalar_type t) = Some t
scalar_in _ = None

-- the number of a word, where it is one of the scalar's
abbrev pub passing : Width → ℕ → Scalar → Option ℤ
passing x m t = if is_scalar t (number_of (is_signed t) x m) then Some (number_of (is_signed t) x m) else None

-- the same of a row's or text's numbers
abbrev pub digit_passing : Array → Width → ℕ → Option ℤ
digit_passing a x m = if is_digit a (number_of (is_signed (number (kind_of a))) x m)
    then Some (number_of (is_signed (number (kind_of a))) x m) else None

-- a length, where a count allows it
abbrev pub allowed : Count → ℕ → Option ℕ
allowed c n = if allows c n then Some n else None

-- octets of any sort
abbrev pub any_octets : List ℕ → Bool
any_octets o = true

-- the views of a number and of a row

abbrev pub itself : ℤ → ℤ
itself n = n

abbrev pub numbers_in : Numbers → List ℤ
numbers_in r = r.numbers
