-- One operation more before a reversed code.
use Rattle.std.proofs.Common.{◌≡◌, List, [], ◌∷◌, ◌++◌, ap}
use Rattle.std.specs.Prelude.{reverse}
use Rattle.std.proofs.lemmas.List.{reverse-append}
use Rattle.cast_stub.specs.declared.send.SendOp.{SendOp}
use Rattle.cast_stub.specs.Block.{op_seen, code_seen}
use Rattle.cast_stub.proofs.Pieces.{seen-Ensure, seen-EnsureRow}

pub after-push : (back : List SendOp) (o : SendOp) → code_seen (reverse (back ++ o ∷ [])) ≡ op_seen o (code_seen (reverse back))
after-push back o = ap code_seen (reverse-append back (o ∷ []))

pub ruleset reversed = (after-push, seen-Ensure, seen-EnsureRow)
