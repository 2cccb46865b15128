-- Code from an operation on.
use Rattle.std.proofs.Common.{◌≡◌, ℕ, ◌+◌, ◌<◌, List, length, drop, get_or, refl, add-one}
use Rattle.std.proofs.Math.Seq.{drop-cons}
use Rattle.cast_stub.specs.declared.send.SendOp.{SendOp}
use Rattle.cast_stub.specs.Block.{op_seen, code_seen}

pub code-drop : (ops : List SendOp) (i : ℕ) (d : SendOp) → i < length ops → code_seen (drop i ops)
    ≡ op_seen (get_or ops i d) (code_seen (drop (i + 1) ops))
code-drop ops i d h = rw (add-one, drop-cons ops i d) refl
