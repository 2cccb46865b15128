-- What is made of a block for a part, calls put in their place: of blocks after blocks, and of the bodies of a switch.
use Rattle.std.proofs.Common.{◌≡◌, ℕ, List, refl, ap, ◌∙◌}
use Rattle.cast_stub.specs.Block.{Block}
use Rattle.cast_stub.specs.Append.{append, rebase}
use Rattle.cast_stub.proofs.Appending.{append-stop}
use Rattle.cast_stub.proofs.Pieces.{pieces}
use Rattle.cast_stub.proofs.Directions.{sends}
use Rattle.cast_stub.proofs.Trees.{GoesInto}
use Rattle.copy_inline.specs.Spliced.{spliced, cases_spliced}
use Rattle.copy_inline.proofs.Blocks.{rebase-append, rebase-rebase, rebase-none, spliced-append}

-- a block with a code for each call, for the part at a path
abbrev pub placed : (ℕ → Block) → List ℕ → Block → Block
placed inl q b = rebase q (spliced inl b)

pub placed-append : (inl : ℕ → Block) (q : List ℕ) (a b : Block) → placed inl q (append a b) ≡ append (placed inl q a) (placed inl q b)
placed-append inl q a b = ap (rebase q) (spliced-append inl a b) ∙ rebase-append q (spliced inl a) (spliced inl b)

-- calls are replaced in each body of a switch
pub goes_into : (inl : ℕ → Block) → GoesInto sends (spliced inl) (cases_spliced inl)
goes_into inl = record { none = refl; last = λ b. refl; more = λ n b cs. refl }

pub ruleset emitting = (pieces, append-stop, rebase-rebase, rebase-none)
