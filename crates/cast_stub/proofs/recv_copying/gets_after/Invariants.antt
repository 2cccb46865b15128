use Rattle.std.proofs.Common.{◌≡◌, map}
use Rattle.std.proofs.Math.ListN.{take}
use Rattle.cast_stub.specs.RecvAppend.{get_rebased}
use Rattle.cast_stub.proofs.recv_copying.gets_after.Given as goal

abbrev pub invariant-loop-get : goal.invariant-loop-get
invariant-loop-get l = l.copy ≡ map (get_rebased l.prefix) (take l.get-index l.get-items)
