use Rattle.std.proofs.Common.{◌≡◌, take}
use Rattle.back_mach.specs.Words.{words}
use Rattle.back_mach.proofs.leads.octets_of.Given as goal

abbrev pub invariant-loop-number : goal.invariant-loop-number
invariant-loop-number l = l.octets ≡ words (take l.number-index l.numbers)
