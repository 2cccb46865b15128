use Rattle.std.proofs.Common.{◌≡◌, ◌++◌, map, drop}
use Rattle.mint.specs.Values.{seen}
use Rattle.mint.proofs.copying.+copy.Given as goal

-- the copies so far, and what is left
abbrev pub invariant-copy_values-loop-value : goal.invariant-copy_values-loop-value
invariant-copy_values-loop-value l = map seen l.copies ++ map seen (drop l.value-index l.value-items) ≡ map seen l.value-items
