use Rattle.std.proofs.Common.{◌≡◌, map, drop}
use Rattle.idl_read.specs.Reading.{is_in}
use Rattle.idl_read.proofs.first.is_one.Given as goal

abbrev pub invariant-loop-word : goal.invariant-loop-word
invariant-loop-word l = is_in l.name (map (λ w. w.now) l.words) ≡ is_in l.name (map (λ w. w.now) (drop l.word-index l.words))
