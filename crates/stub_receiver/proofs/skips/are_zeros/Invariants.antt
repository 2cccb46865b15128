use Rattle.std.proofs.Common.{◌≡◌, drop}
use Rattle.cast_stub.specs.Into.{all_zero}
use Rattle.stub_receiver.proofs.skips.are_zeros.Given as goal

abbrev pub invariant-loop-octet : goal.invariant-loop-octet
invariant-loop-octet l = all_zero l.octets ≡ all_zero (drop l.octet-index l.octets)
