use Rattle.std.proofs.Common.{◌≡◌, ℕ, List, ◌++◌, drop, map, codes}
use Rattle.aoi.specs.Plain.{plain_raise}
use Rattle.flick_texts.specs.Show.{raises_text}
use Rattle.flick_texts.proofs.operations.put_raises.Given as goal

-- what is put, and what is left
abbrev pub invariant-loop-raise : goal.invariant-loop-raise
invariant-loop-raise l = (rest : List ℕ) → l.fn.out ++ raises_text (codes " raises ") (map plain_raise l.raises) rest
    ≡ l.out ++ raises_text l.mark (map plain_raise (drop l.raise-index l.raises)) rest
