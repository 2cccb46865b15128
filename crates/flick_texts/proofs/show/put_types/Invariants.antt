use Rattle.std.proofs.Common.{◌≡◌, ℕ, List, ◌++◌, drop}
use Rattle.flick_texts.specs.Show.{type_lines}
use Rattle.flick_texts.specs.TypeText.{names_of, trees_of}
use Rattle.flick_texts.proofs.show.put_types.Given as goal

-- what is put, and what is left
abbrev pub invariant-loop-name : goal.invariant-loop-name
invariant-loop-name l = (rest : List ℕ) → l.fn.out ++ type_lines (names_of (trees_of l.types)) (trees_of l.types) rest
    ≡ l.out ++ type_lines (names_of (trees_of l.types)) (trees_of (drop l.name-index l.types)) rest
