-- What is made of a block that receives for a part, calls put in their place: of blocks after blocks, of bodies of a switch.
use Rattle.std.proofs.Common.{◌≡◌, ℕ, List, refl, ap, ◌∙◌}
use Rattle.cast_stub.specs.RecvBlock.{Recv}
use Rattle.cast_stub.specs.RecvAppend.{append, rebase}
use Rattle.cast_stub.proofs.RecvAppending.{append-finish}
use Rattle.cast_stub.proofs.RecvPieces.{pieces}
use Rattle.cast_stub.proofs.Directions.{receives}
use Rattle.cast_stub.proofs.Trees.{GoesInto}
use Rattle.copy_inline.specs.RecvSpliced.{spliced, cases_spliced}
use Rattle.copy_inline.proofs.RecvBlocks.{rebase-append, rebase-rebase, rebase-none, spliced-append}

-- a block with a code for each call, for the part at a path
abbrev pub placed : (ℕ → Recv) → List ℕ → Recv → Recv
placed inl q b = rebase q (spliced inl b)

pub placed-append : (inl : ℕ → Recv) (q : List ℕ) (a b : Recv) → placed inl q (append a b) ≡ append (placed inl q a) (placed inl q b)
placed-append inl q a b = ap (rebase q) (spliced-append inl a b) ∙ rebase-append q (spliced inl a) (spliced inl b)

-- calls are replaced in each body of a switch
pub goes_into : (inl : ℕ → Recv) → GoesInto receives (spliced inl) (cases_spliced inl)
goes_into inl = record { none = refl; last = λ b. refl; more = λ n b cs. refl }

pub ruleset emitting = (pieces, append-finish, rebase-rebase, rebase-none)
