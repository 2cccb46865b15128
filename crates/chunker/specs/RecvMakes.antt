-- The receive code that is made so far, with a take that is open, and what one more operation makes of it.
use Rattle.std.specs.Prelude.{◌≡◌, ℕ, ◌+◌, []}
use Rattle.cast_stub.specs.declared.recv.RecvOp.{RecvOp}
use Rattle.cast_stub.specs.RecvAppend.{append}
use Rattle.cast_stub.specs.RecvBlock.{Recv, Piece, op_seen, code_seen}
use Rattle.chunker.specs.declared.phase.Phase.{Phase}
use Rattle.chunker.specs.declared.recv_run.RecvRun.{RecvRun}
use Rattle.chunker.specs.Phases.{IsPhase, shift}
use Rattle.chunker.specs.RecvChunked.{chunked, closed, seen_with}

-- what is made so far, before what the rest of a block becomes
abbrev pub under : RecvRun → Recv → Recv
under run r = append (code_seen run.out) (chunked run.phase run.size run.gets run.seen r)

-- no take is open
pub record IsClosed (run : RecvRun) : Type 0 where
  pub size : run.size ≡ 0
  pub gets : run.gets ≡ []
  pub seen : run.seen ≡ 0

-- the open take stands behind what was made
pub record Closes (old new : RecvRun) : Type 0 where
  pub made : (r : Recv) → append (code_seen new.out) r ≡ append (code_seen old.out) (closed old.size old.gets old.seen r)
  pub phase : new.phase ≡ old.phase
  pub shut : IsClosed new

-- and an operation behind it
pub record Places (op : RecvOp) (end : Phase) (old new : RecvRun) : Type 0 where
  pub made : (r : Recv) → append (code_seen new.out) r ≡ append (code_seen old.out) (closed old.size old.gets old.seen (op_seen op r))
  pub phase : new.phase ≡ end
  pub shut : IsClosed new

-- so many octets more of the open take
pub record Grows (octets : ℕ) (old new : RecvRun) : Type 0 where
  pub out : new.out ≡ old.out
  pub phase : new.phase ≡ shift old.phase octets
  pub size : new.size ≡ old.size + octets
  pub gets : new.gets ≡ old.gets
  pub seen : new.seen ≡ old.seen
  pub known : IsPhase new.phase

-- so many octets are tested behind the open take
pub record Sees (octets : ℕ) (old new : RecvRun) : Type 0 where
  pub out : new.out ≡ old.out
  pub phase : new.phase ≡ old.phase
  pub size : new.size ≡ old.size
  pub gets : new.gets ≡ old.gets
  pub seen : new.seen ≡ seen_with old.seen old.size octets

-- what a piece makes, before every rest
pub record Takes (piece : Piece) (old new : RecvRun) : Type 0 where
  pub rest : (r : Recv) → under new r ≡ under old (piece r)
  pub phase : IsPhase new.phase
