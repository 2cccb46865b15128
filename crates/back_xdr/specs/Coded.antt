-- A head as one chunk.
use Rattle.std.specs.Prelude.{◌≡◌, ℕ, ◌+◌, ◌*◌, List, [], ◌∷◌, length}
use Rattle.wire_def.specs.declared.head.Order.TheVariants.{Big}
use Rattle.cast_stub.specs.declared.put.HeadField.TheVariants.{Id}
use Rattle.cast_stub.specs.declared.put.Put.TheVariants as put
use Rattle.cast_stub.specs.declared.send.SendCode.{SendCode}
use Rattle.cast_stub.specs.Block.{stop, chunk, code_seen}
use Rattle.raw_buf.specs.Words.{words}

-- the transaction, and words after it
abbrev pub IsCoded : List ℕ → SendCode → Type 0
IsCoded numbers code = code_seen code.ops ≡ chunk (4 + 4 * length numbers) (put.Head 0 Id 4 Big ∷ put.Const 4 (words numbers) ∷ []) stop
