use Rattle.std.proofs.Common.{◌≡◌, ℕ, List, ◌++◌, drop}
use Rattle.flick_texts.specs.Arrays.{all_elements_text}
use Rattle.flick_texts.proofs.types.put_all_elements.Given as goal

-- what is put, and what is left
abbrev pub invariant-loop-count : goal.invariant-loop-count
invariant-loop-count l = (rest : List ℕ) → l.fn.out ++ all_elements_text l.counts rest
    ≡ l.out ++ all_elements_text (drop l.count-index l.counts) rest
