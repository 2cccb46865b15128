-- The text of arrays of arrays before that of the innermost elements.
use Rattle.std.specs.Prelude.{ℕ, List, [], ◌∷◌}
use Rattle.mint.specs.declared.kind.Count.{Count}
use Rattle.flick_texts.specs.TypeText.{elements_text}

-- how many elements there are in each array, from the outside in
abbrev pub all_elements_text : List Count → List ℕ → List ℕ
all_elements_text [] rest = rest
all_elements_text (c ∷ cs) rest = elements_text c (all_elements_text cs rest)
