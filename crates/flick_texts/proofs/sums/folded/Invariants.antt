use Rattle.std.proofs.Common.{◌≡◌, drop}
use Rattle.flick_texts.specs.Counted.{folded}
use Rattle.flick_texts.proofs.sums.folded.Given as goal

-- the fold so far, and what is left
abbrev pub invariant-loop-octet : goal.invariant-loop-octet
invariant-loop-octet l = folded l.fold l.octets ≡ folded l.folded (drop l.octet-index l.octets)
