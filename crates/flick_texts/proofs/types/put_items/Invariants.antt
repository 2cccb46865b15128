use Rattle.std.proofs.Common.{◌≡◌, ℕ, List, [], ◌++◌, drop}
use Rattle.flick_texts.specs.TypeText.{items_text}
use Rattle.flick_texts.proofs.types.put_items.Given as goal

-- what is put, and what is left
abbrev pub invariant-loop-name : goal.invariant-loop-name
invariant-loop-name l = (rest : List ℕ) → l.fn.out ++ items_text [] l.items rest
    ≡ l.out ++ items_text l.mark (drop l.name-index l.items) rest
