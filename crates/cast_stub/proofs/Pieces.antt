-- Each operation as a piece of a block.
use Rattle.std.proofs.Common.{◌≡◌, ℕ, ℤ, List, Option, Some, None, ap, sym, ◌∙◌}
use Rattle.wire_def.specs.declared.head.Order.{Order}
use Rattle.cast_stub.specs.declared.put.Put.{Put}
use Rattle.cast_stub.specs.declared.send.SendOp.{SendOp}
use Rattle.cast_stub.specs.declared.send.SendOp.TheOpen.{SendOp-F}
use Rattle.cast_stub.specs.declared.send.SendOp.TheVariants as op
use Rattle.cast_stub.specs.declared.send.SendOp.TheFolds.{fold-roll-SendOp}
use Rattle.cast_stub.specs.Block.{ensure, ensure_row, align, chunk, row_copy, row_swap, row_wide, each, switch, if_there, call, patch, Piece, piece_level, op_seen, code_seen, cases_seen}

pub seen-Ensure : (n : ℕ) → op_seen (op.Ensure n) ≡ ensure n
seen-Ensure n = ap op_seen (sym (op.rolls-Ensure n)) ∙ fold-roll-SendOp Piece piece_level (SendOp-F.Ensure n)

pub seen-Each : (path : List ℕ) (code : List SendOp) → op_seen (op.Each path code) ≡ each path (code_seen code)
seen-Each path code = ap op_seen (sym (op.rolls-Each path code)) ∙ fold-roll-SendOp Piece piece_level (SendOp-F.Each path code)

pub seen-EnsureRow : (path : List ℕ) (unit extra : ℕ) → op_seen (op.EnsureRow path unit extra) ≡ ensure_row path unit extra
seen-EnsureRow path unit extra = ap op_seen (sym (op.rolls-EnsureRow path unit extra))
    ∙ fold-roll-SendOp Piece piece_level (SendOp-F.EnsureRow path unit extra)

pub seen-Align : (n : ℕ) → op_seen (op.Align n) ≡ align n
seen-Align n = ap op_seen (sym (op.rolls-Align n)) ∙ fold-roll-SendOp Piece piece_level (SendOp-F.Align n)

pub seen-Chunk : (size : ℕ) (puts : List Put) → op_seen (op.Chunk size puts) ≡ chunk size puts
seen-Chunk size puts = ap op_seen (sym (op.rolls-Chunk size puts)) ∙ fold-roll-SendOp Piece piece_level (SendOp-F.Chunk size puts)

pub seen-RowCopy : (path : List ℕ) → op_seen (op.RowCopy path) ≡ row_copy path
seen-RowCopy path = ap op_seen (sym (op.rolls-RowCopy path)) ∙ fold-roll-SendOp Piece piece_level (SendOp-F.RowCopy path)

pub seen-RowSwap : (path : List ℕ) → op_seen (op.RowSwap path) ≡ row_swap path
seen-RowSwap path = ap op_seen (sym (op.rolls-RowSwap path)) ∙ fold-roll-SendOp Piece piece_level (SendOp-F.RowSwap path)

pub seen-RowWide : (path : List ℕ) (order : Order) → op_seen (op.RowWide path order) ≡ row_wide path order
seen-RowWide path order = ap op_seen (sym (op.rolls-RowWide path order)) ∙ fold-roll-SendOp Piece piece_level (SendOp-F.RowWide path order)

pub seen-Switch : (path : List ℕ) (cases : List (ℤ × List SendOp)) (other : Option (List SendOp)) → op_seen (op.Switch path cases other)
    ≡ switch path (cases_seen cases other)
seen-Switch path cases None = ap op_seen (sym (op.rolls-Switch path cases None))
    ∙ fold-roll-SendOp Piece piece_level (SendOp-F.Switch path cases None)
seen-Switch path cases (Some os) = ap op_seen (sym (op.rolls-Switch path cases (Some os)))
    ∙ fold-roll-SendOp Piece piece_level (SendOp-F.Switch path cases (Some os))

pub seen-Some : (path : List ℕ) (code : List SendOp) → op_seen (op.Some path code) ≡ if_there path (code_seen code)
seen-Some path code = ap op_seen (sym (op.rolls-Some path code)) ∙ fold-roll-SendOp Piece piece_level (SendOp-F.Some path code)

pub seen-Call : (k : ℕ) (path : List ℕ) → op_seen (op.Call k path) ≡ call k path
seen-Call k path = ap op_seen (sym (op.rolls-Call k path)) ∙ fold-roll-SendOp Piece piece_level (SendOp-F.Call k path)

pub seen-Patch : (at sub : ℕ) (order : Order) → op_seen (op.Patch at sub order) ≡ patch at sub order
seen-Patch at sub order = ap op_seen (sym (op.rolls-Patch at sub order)) ∙ fold-roll-SendOp Piece piece_level (SendOp-F.Patch at sub order)

pub ruleset pieces = (
  seen-Ensure,
  seen-EnsureRow,
  seen-Align,
  seen-Chunk,
  seen-RowCopy,
  seen-RowSwap,
  seen-RowWide,
  seen-Each,
  seen-Switch,
  seen-Some,
  seen-Call,
  seen-Patch,
)
