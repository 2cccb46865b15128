use Rattle.std.proofs.Common.{◌≡◌, [], map}
use Rattle.std.proofs.Math.ListN.{drop, take}
use Rattle.cast_stub.specs.RecvBlock.{code_seen}
use Rattle.cast_stub.proofs.Directions.{receives}
use Rattle.cast_stub.proofs.Trees.{shown, made}
use Rattle.chunker.specs.RecvChunked.{chunked}
use Rattle.chunker.specs.RecvMakes.{under}
use Rattle.chunker.specs.Phases.{IsPhase}
use Rattle.chunker.proofs.recv_pass.+chunk_recv.Given as goal

abbrev pub invariant-chunk_ops-loop-op : goal.invariant-chunk_ops-loop-op
invariant-chunk_ops-loop-op l = (under l.run (code_seen (drop l.op-index l.op-items)) ≡ chunked l.fn.phase 0 [] 0
    (code_seen l.op-items)) × IsPhase l.run.phase

abbrev pub invariant-put_op-loop-case : goal.invariant-put_op-loop-case
invariant-put_op-loop-case l = map (shown receives) l.bodies ≡ map (made receives (chunked l.run.phase 0 [] 0))
    (take l.case-index l.case-items)
