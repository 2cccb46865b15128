use Rattle.std.proofs.Common.{◌≡◌}
use Rattle.std.proofs.Math.ListN.{take}
use Rattle.cast_stub.specs.RecvBlock.{code_seen}
use Rattle.copy_inline.proofs.recv_arrays.copy_turn.Given as goal

abbrev pub invariant-loop-op : goal.invariant-loop-op
invariant-loop-op l = code_seen l.out ≡ code_seen (take l.op-index l.op-items)
