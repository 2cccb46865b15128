-- The receive code that the pass makes.
use Rattle.std.specs.Prelude.{◌≡◌, List, [], map}
use Rattle.cast_stub.specs.declared.recv.RecvCode.{RecvCode}
use Rattle.cast_stub.specs.declared.recv.RecvOp.{RecvOp}
use Rattle.cast_stub.specs.RecvBlock.{code_seen}
use Rattle.chunker.specs.declared.phase.Phase.{Phase}
use Rattle.chunker.specs.Phases.{unknown}
use Rattle.chunker.specs.RecvChunked.{chunked}

-- neighbouring tests as one and neighbouring takes as one, in the codes that calls name too
pub record IsRecvChunked (phase : Phase) (given code : RecvCode) : Type 0 where
  pub ops : code_seen code.ops ≡ chunked phase 0 [] 0 (code_seen given.ops)
  pub subs : map code_seen code.subs ≡ map (λ (s : List RecvOp). chunked unknown 0 [] 0 (code_seen s)) given.subs
