use Rattle.std.proofs.Common.{◌≡◌, ◌++◌, map}
use Rattle.std.proofs.Math.ListN.{take}
use Rattle.chunker.specs.RecvChunked.{moved}
use Rattle.chunker.proofs.recv_gets.move_gets.Given as goal

abbrev pub invariant-loop-get : goal.invariant-loop-get
invariant-loop-get l = l.out ≡ l.fn.out ++ map (moved l.by) (take l.get-index l.get-items)
