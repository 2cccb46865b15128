-- The code that is made so far, with a chunk that is open, and what one more operation makes of it.
use Rattle.std.specs.Prelude.{◌≡◌, ℕ, ◌+◌, []}
use Rattle.cast_stub.specs.declared.send.SendOp.{SendOp}
use Rattle.cast_stub.specs.Append.{append}
use Rattle.cast_stub.specs.Block.{Block, Piece, op_seen, code_seen}
use Rattle.chunker.specs.declared.phase.Phase.{Phase}
use Rattle.chunker.specs.declared.run.Run.{Run}
use Rattle.chunker.specs.Chunked.{chunked, closed}
use Rattle.chunker.specs.Phases.{IsPhase, shift}

-- what is made so far, before what the rest of a block becomes
abbrev pub under : Run → Block → Block
under run r = append (code_seen run.out) (chunked run.phase run.size run.puts r)

-- no chunk is open
pub record IsClosed (run : Run) : Type 0 where
  pub size : run.size ≡ 0
  pub puts : run.puts ≡ []

-- the open chunk stands behind what was made
pub record Closes (old new : Run) : Type 0 where
  pub made : (r : Block) → append (code_seen new.out) r ≡ append (code_seen old.out) (closed old.size old.puts r)
  pub phase : new.phase ≡ old.phase
  pub shut : IsClosed new

-- and an operation behind it
pub record Places (op : SendOp) (end : Phase) (old new : Run) : Type 0 where
  pub made : (r : Block) → append (code_seen new.out) r ≡ append (code_seen old.out) (closed old.size old.puts (op_seen op r))
  pub phase : new.phase ≡ end
  pub shut : IsClosed new

-- so many octets more of the open chunk
pub record Grows (octets : ℕ) (old new : Run) : Type 0 where
  pub out : new.out ≡ old.out
  pub phase : new.phase ≡ shift old.phase octets
  pub size : new.size ≡ old.size + octets
  pub puts : new.puts ≡ old.puts
  pub known : IsPhase new.phase

-- what a piece makes, before every rest
pub record Takes (piece : Piece) (old new : Run) : Type 0 where
  pub rest : (r : Block) → under new r ≡ under old (piece r)
  pub phase : IsPhase new.phase
