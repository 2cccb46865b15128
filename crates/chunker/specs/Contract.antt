-- The code that the pass makes.
use Rattle.std.specs.Prelude.{◌≡◌, List, [], map}
use Rattle.cast_stub.specs.declared.send.SendCode.{SendCode}
use Rattle.cast_stub.specs.declared.send.SendOp.{SendOp}
use Rattle.cast_stub.specs.Block.{code_seen}
use Rattle.chunker.specs.declared.phase.Phase.{Phase}
use Rattle.chunker.specs.Chunked.{chunked}
use Rattle.chunker.specs.Phases.{unknown}

-- neighbouring stores in one chunk, in the codes that calls name too
pub record IsChunked (phase : Phase) (given code : SendCode) : Type 0 where
  pub ops : code_seen code.ops ≡ chunked phase 0 [] (code_seen given.ops)
  pub subs : map code_seen code.subs ≡ map (λ (s : List SendOp). chunked unknown 0 [] (code_seen s)) given.subs
