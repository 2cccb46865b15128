use Rattle.std.proofs.Common.{◌≡◌, [], map}
use Rattle.std.proofs.Math.ListN.{take}
use Rattle.cast_stub.specs.RecvBlock.{code_seen}
use Rattle.chunker.specs.RecvChunked.{chunked}
use Rattle.chunker.specs.Phases.{unknown}
use Rattle.chunker.proofs.recv_pass.chunk_subs.Given as goal

abbrev pub invariant-loop-sub : goal.invariant-loop-sub
invariant-loop-sub l = map code_seen l.made ≡ map (λ s. chunked unknown 0 [] 0 (code_seen s)) (take l.sub-index l.sub-items)
