use Rattle.std.proofs.Common.{◌≡◌}
use Rattle.std.proofs.Math.ListN.{take}
use Rattle.cast_stub.specs.RecvBlock.{code_seen}
use Rattle.cast_stub.specs.RecvAppend.{append}
use Rattle.stub_lower.specs.RecvCodes.{calls_from}
use Rattle.stub_lower.proofs.recv_nodes.add_calls.Given as goal

abbrev pub invariant-loop-i : goal.invariant-loop-i
invariant-loop-i l = code_seen l.out ≡ append (code_seen l.fn.out) (calls_from 0 (take l.i l.ids))
