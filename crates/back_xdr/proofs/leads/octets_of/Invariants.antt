use Rattle.std.proofs.Common.{◌≡◌, take}
use Rattle.raw_buf.specs.Words.{words}
use Rattle.back_xdr.proofs.leads.octets_of.Given as goal

abbrev pub invariant-loop-number : goal.invariant-loop-number
invariant-loop-number l = l.octets ≡ words (take l.number-index l.numbers)
