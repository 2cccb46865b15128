use Rattle.std.proofs.Common.{◌≡◌, ℕ, List, ◌++◌, drop, map}
use Rattle.aoi.specs.Plain.{plain_operation}
use Rattle.flick_texts.specs.Show.{operation_lines}
use Rattle.flick_texts.specs.TypeText.{names_of, trees_of}
use Rattle.flick_texts.proofs.show.put_operations.Given as goal

-- what is put, and what is left
abbrev pub invariant-loop-operation : goal.invariant-loop-operation
invariant-loop-operation l = (rest : List ℕ)
    → l.fn.out ++ operation_lines (names_of (trees_of l.types)) (map plain_operation l.operations) rest
    ≡ l.out ++ operation_lines (names_of (trees_of l.types)) (map plain_operation (drop l.operation-index l.operations)) rest
