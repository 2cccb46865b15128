-- Sorts of rows and texts, and code with rows as blocks, worked by hand.
use Rattle.std.proofs.Common.{◌≡◌, ℕ, ℤ, pos, negsuc, List, [], ◌∷◌, Option, Some, refl, true}
use Rattle.mint.specs.declared.kind.Kind.{Kind}
use Rattle.mint.specs.declared.kind.Kind.TheVariants as kind
use Rattle.mint.specs.declared.kind.Count.{Count}
use Rattle.mint.specs.declared.kind.Count.TheVariants.{Exactly, AtMost, Any}
use Rattle.mint.specs.Row.{octets_of}
use Rattle.mint.specs.Types.{text, row_of, array_type}
use Rattle.mint.specs.Values.{row}
use Rattle.wire_def.specs.declared.encoding.Encoding.{Encoding}
use Rattle.wire_def.specs.declared.encoding.Encoding.TheVariants.{Xdr, CdrBig, CdrLittle, Mach}
use Rattle.wire_def.specs.declared.head.Head.{Head}
use Rattle.wire_def.specs.declared.head.Order.{Order}
use Rattle.wire_def.specs.declared.head.Order.TheVariants.{Big, Little}
use Rattle.cast_stub.specs.declared.put.Put.TheVariants as put
use Rattle.cast_stub.specs.Parts.{on_some}
use Rattle.cast_stub.specs.Block.{Block, stop, align, chunk, each}
use Rattle.cast_stub.specs.Meaning.{wrote}
use Rattle.cast_stub.specs.Steps.{steps}
use Rattle.cast_stub.specs.Subs as sending
use Rattle.cast_stub.specs.declared.recv.Get.TheVariants as get
use Rattle.cast_stub.specs.RecvBlock.{Recv, need, pass, finish}
use Rattle.cast_stub.specs.RecvBlock as recv
use Rattle.cast_stub.specs.Draft.{fresh}
use Rattle.cast_stub.specs.Fill.{fill, settled}
use Rattle.cast_stub.specs.Got.{Got, given as given_value, not_given, no_calls, reported, untested}
use Rattle.copy_inline.specs.declared.sorts.Sort.TheVariants.{Block as Whole, Wide, Looped}
use Rattle.copy_inline.specs.Counted.{blocks}
use Rattle.copy_inline.specs.Sorts.{sort_of}
use Rattle.copy_inline.specs.Rowed.{rowed}
use Rattle.copy_inline.specs.RecvRowed.{rowed as recv_rowed}

-- ---- sorts

-- over XDR a row of numbers below 32 bits is wide, but for opaque data; a string is a block
xdr_blocks : (c : Count)
    → (sort_of Xdr (text c) ≡ Whole) × (sort_of Xdr (row_of kind.Octet c) ≡ Whole) × (sort_of Xdr (row_of kind.I32 c) ≡ Whole)
    × (sort_of Xdr (row_of kind.U32 c) ≡ Whole) × (sort_of Xdr (row_of kind.I64 c) ≡ Whole) × (sort_of Xdr (row_of kind.U64 c) ≡ Whole)
xdr_blocks c = (refl, refl, refl, refl, refl, refl)

xdr_wide : (c : Count)
    → (sort_of Xdr (row_of kind.I8 c) ≡ Wide) × (sort_of Xdr (row_of kind.U8 c) ≡ Wide) × (sort_of Xdr (row_of kind.Char c) ≡ Wide)
    × (sort_of Xdr (row_of kind.I16 c) ≡ Wide) × (sort_of Xdr (row_of kind.U16 c) ≡ Wide)
xdr_wide c = (refl, refl, refl, refl, refl)

-- over CDR only numbers of 64 bits go one by one, where their length is not fixed
cdr_blocks : (c : Count)
    → (sort_of CdrBig (text c) ≡ Whole) × (sort_of CdrBig (row_of kind.Octet c) ≡ Whole) × (sort_of CdrBig (row_of kind.I16 c) ≡ Whole)
    × (sort_of CdrLittle (row_of kind.U32 c) ≡ Whole) × (sort_of CdrLittle (row_of kind.Char c) ≡ Whole)
cdr_blocks c = (refl, refl, refl, refl, refl)

cdr_looped : (n : ℕ)
    → (sort_of CdrBig (row_of kind.I64 (AtMost n)) ≡ Looped) × (sort_of CdrLittle (row_of kind.U64 Any) ≡ Looped)
    × (sort_of CdrBig (row_of kind.I64 (Exactly n)) ≡ Whole) × (sort_of CdrLittle (row_of kind.U64 (Exactly n)) ≡ Whole)
cdr_looped n = (refl, refl, refl, refl)

mach_blocks : (c : Count)
    → (sort_of Mach (text c) ≡ Whole) × (sort_of Mach (row_of kind.I16 c) ≡ Whole) × (sort_of Mach (row_of kind.I64 c) ≡ Whole)
mach_blocks c = (refl, refl, refl)

-- ---- code

abbrev head : Head
head = record { id = 0; remote = 0; local = 0; wants = true; order = Big }

-- a count, and a loop over numbers of a width
abbrev counted_row : Order → ℕ → Block → Block
counted_row o w r = chunk 4 (put.Count 0 [] 1 0 4 o ∷ []) (each [] (chunk w (put.Num 0 [] w o ∷ []) stop) r)

-- the octets of a row, sent by the code of a kind with its rows as blocks
abbrev sent : Encoding → Kind → Block → List ℤ → Option (List ℕ)
sent e k b ns = on_some (steps sending.no_calls head (rowed e (array_type (row_of k Any)) b) (row k ns)) (wrote 0 [])

-- how many rows that gives
abbrev given : Encoding → Kind → List ℤ → ℕ
given e k ns = blocks e (array_type (row_of k Any)) (row k ns)

shorts : sent Xdr kind.I16 (counted_row Big 4 stop) (pos 1 ∷ negsuc 0 ∷ [])
    ≡ Some (0 ∷ 0 ∷ 0 ∷ 2 ∷ 0 ∷ 0 ∷ 0 ∷ 1 ∷ 255 ∷ 255 ∷ 255 ∷ 255 ∷ [])
shorts = refl

opaque_data : sent Xdr kind.Octet (counted_row Big 1 (align 4 stop)) (pos 1 ∷ pos 2 ∷ []) ≡ Some (0 ∷ 0 ∷ 0 ∷ 2 ∷ 1 ∷ 2 ∷ 0 ∷ 0 ∷ [])
unfolding octets_of
opaque_data = refl

big_longs : sent CdrBig kind.U32 (counted_row Big 4 stop) (pos 1 ∷ pos 2 ∷ []) ≡ Some (0 ∷ 0 ∷ 0 ∷ 2 ∷ 0 ∷ 0 ∷ 0 ∷ 1 ∷ 0 ∷ 0 ∷ 0 ∷ 2 ∷ [])
unfolding octets_of
big_longs = refl

little_longs : sent CdrLittle kind.U32 (counted_row Little 4 stop) (pos 1 ∷ pos 2 ∷ [])
    ≡ Some (2 ∷ 0 ∷ 0 ∷ 0 ∷ 1 ∷ 0 ∷ 0 ∷ 0 ∷ 2 ∷ 0 ∷ 0 ∷ 0 ∷ [])
unfolding octets_of
little_longs = refl

-- no padding where there is no number
no_longs : sent CdrBig kind.I64 (chunk 4 (put.Count 0 [] 1 0 4 Big ∷ []) (each [] (align 8 (chunk 8 (put.Num 0 [] 8 Big ∷ []) stop)) stop))
    []
    ≡ Some (0 ∷ 0 ∷ 0 ∷ 0 ∷ [])
no_longs = refl

as_many : (given Xdr kind.I16 (pos 1 ∷ negsuc 0 ∷ []) ≡ 0) × (given Xdr kind.Octet (pos 1 ∷ pos 2 ∷ []) ≡ 1)
    × (given CdrBig kind.U32 (pos 1 ∷ []) ≡ 1) × (given CdrLittle kind.U32 [] ≡ 1) × (given CdrBig kind.I64 [] ≡ 0)
as_many = (refl, refl, refl, refl, refl)

-- ---- code that receives

-- a count, and a loop over numbers of a width that are received one by one
abbrev received_row : Order → ℕ → Recv
received_row o w = need 4 (pass 4 (get.Count 0 [] 1 0 4 o ∷ []) (recv.each [] (need w (pass w (get.Num 0 [] w o ∷ []) finish)) finish))

-- what code gives of octets, for a row of a kind
abbrev got_row : Kind → Recv → List ℕ → Got
got_row k b o = reported (settled (fill no_calls b (fresh (array_type (row_of k Any))) (untested 0 o)))

abbrev in_rows : Encoding → Kind → Recv → Recv
in_rows e k b = recv_rowed e (array_type (row_of k Any)) b

abbrev two_longs : List ℕ
two_longs = 0 ∷ 0 ∷ 0 ∷ 2 ∷ 0 ∷ 0 ∷ 0 ∷ 1 ∷ 0 ∷ 0 ∷ 0 ∷ 2 ∷ []

-- the numbers are tested for one by one, or as a row at once
longs_tested : got_row kind.U32 (received_row Big 4) two_longs ≡ given_value (row kind.U32 (pos 1 ∷ pos 2 ∷ [])) 12 3
longs_tested = refl

longs_at_once : got_row kind.U32 (in_rows CdrBig kind.U32 (received_row Big 4)) two_longs
    ≡ given_value (row kind.U32 (pos 1 ∷ pos 2 ∷ [])) 12 2
longs_at_once = refl

-- a row without numbers is tested for too
none_tested : got_row kind.U32 (received_row Big 4) (0 ∷ 0 ∷ 0 ∷ 0 ∷ []) ≡ given_value (row kind.U32 []) 4 1
none_tested = refl

none_at_once : got_row kind.U32 (in_rows CdrBig kind.U32 (received_row Big 4)) (0 ∷ 0 ∷ 0 ∷ 0 ∷ []) ≡ given_value (row kind.U32 []) 4 2
none_at_once = refl

-- wide numbers, and octets that end before the numbers do
shorts_at_once : got_row kind.I16 (in_rows Xdr kind.I16 (received_row Big 4)) (0 ∷ 0 ∷ 0 ∷ 2 ∷ 0 ∷ 0 ∷ 0 ∷ 1 ∷ 255 ∷ 255 ∷ 255 ∷ 255 ∷ [])
    ≡ given_value (row kind.I16 (pos 1 ∷ negsuc 0 ∷ [])) 12 2
shorts_at_once = refl

cut_at_once : got_row kind.U32 (in_rows CdrBig kind.U32 (received_row Big 4)) (0 ∷ 0 ∷ 0 ∷ 2 ∷ 0 ∷ 0 ∷ 0 ∷ 1 ∷ 0 ∷ []) ≡ not_given
cut_at_once = refl
