-- Codes that are refused, and codes that pass, worked out by hand.
use Rattle.std.proofs.Common.{◌≡◌, List, [], ◌∷◌, Some, None, is_some, Bool, true, false, refl}
use Rattle.mint.specs.declared.kind.Kind.TheVariants.{Octet, U32}
use Rattle.mint.specs.declared.kind.Count.TheVariants.{AtMost}
use Rattle.mint.specs.declared.node.Node.{Node}
use Rattle.mint.specs.declared.node.Node.TheVariants as node
use Rattle.cast_stub.specs.Block.{Block, stop, ensure, ensure_row, align, chunk, row_copy, each, if_there}
use Rattle.stub_cover.specs.Rooms.{only_room}
use Rattle.stub_cover.specs.Covers.{run, most_turns}

-- a struct of a text, a list of octets and a list of 32 bit numbers, each of at most 9000, and an octet that may be there
abbrev table : List Node
table =
    node.Num Octet ∷ node.Text (AtMost 9000) ∷ node.Items 0 (AtMost 9000) ∷ node.Row U32 (AtMost 9000) ∷ node.Maybe 0
    ∷ node.Group (1 ∷ 2 ∷ 3 ∷ 4 ∷ []) ∷ []

-- whether a code over the struct passes
abbrev passes : Block → Bool
passes b = is_some (run table (Some 5) b None (only_room 0 0))

-- an octet by itself
abbrev octet : Block → Block
octet r = ensure 1 (chunk 1 [] r)

-- a text inside the octets that are ensured for each of its letters
text_passes : passes (ensure_row (0 ∷ []) 1 0 (row_copy (0 ∷ []) stop)) ≡ true
unfolding most_turns
text_passes = refl

-- another loop keeps no credit
another_loop : passes (ensure_row (0 ∷ []) 1 0 (each (1 ∷ []) (octet stop) (row_copy (0 ∷ []) stop))) ≡ false
unfolding most_turns
another_loop = refl

-- nor what may be there
what_may_be_there : passes (ensure_row (0 ∷ []) 1 0 (if_there (3 ∷ []) (octet stop) (row_copy (0 ∷ []) stop))) ≡ false
unfolding most_turns
what_may_be_there = refl

-- a credit serves once
twice : passes (ensure_row (0 ∷ []) 1 0 (row_copy (0 ∷ []) (row_copy (0 ∷ []) stop))) ≡ false
unfolding most_turns
twice = refl

-- an ensure ends it
ensured : passes (ensure_row (0 ∷ []) 1 0 (octet (row_copy (0 ∷ []) stop))) ≡ false
unfolding most_turns
ensured = refl

-- a loop by a credit keeps the least room
least_room :
    passes (ensure 3 (if_there (3 ∷ []) (chunk 3 [] stop)
    (ensure_row (2 ∷ []) 4 8 (align 4 (row_copy (2 ∷ []) (chunk 4 [] (align 8 stop))))))) ≡ false
unfolding most_turns
least_room = refl
