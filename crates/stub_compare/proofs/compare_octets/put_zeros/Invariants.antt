use Rattle.std.proofs.Common.{◌≡◌, ℕ, List, ◌++◌, replicate}
use Rattle.stub_flat.specs.Items.{fixed}
use Rattle.stub_compare.specs.CompareText.{cells_text}
use Rattle.stub_compare.proofs.compare_octets.put_zeros.Given as goal

-- what is put, and what is left
abbrev pub invariant-loop-left : goal.invariant-loop-left
invariant-loop-left l = (rest : List ℕ) → l.fn.out ++ cells_text (replicate l.fn.n (fixed 0)) rest
    ≡ l.out ++ cells_text (replicate l.left (fixed 0)) rest

abbrev pub decreases-loop-left : goal.decreases-loop-left
decreases-loop-left l = l.left
