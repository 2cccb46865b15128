use Rattle.std.proofs.Common.{◌≡◌, replicate}
use Rattle.chunker.proofs.recv_gets.get_zeros.Given as goal

abbrev pub invariant-loop : goal.invariant-loop
invariant-loop l = l.octets ≡ replicate l.counter 0
