use Rattle.std.proofs.Common.{◌≡◌, ℕ, List, ◌++◌, drop}
use Rattle.aoi.specs.Shapes.{members}
use Rattle.flick_texts.specs.TypeText.{parameters_text, names_of, trees_of}
use Rattle.flick_texts.proofs.types.put_parameters.Given as goal

-- what is put, and what is left
abbrev pub invariant-loop-field : goal.invariant-loop-field
invariant-loop-field l = (rest : List ℕ)
    → l.fn.out ++ parameters_text (names_of (trees_of l.types)) l.first (members l.fields) rest
    ≡ l.out ++ parameters_text (names_of (trees_of l.types)) l.mark (members (drop l.field-index l.fields)) rest
