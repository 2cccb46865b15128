-- Each operation that receives as a piece of a block.
use Rattle.std.proofs.Common.{◌≡◌, ℕ, ℤ, List, Option, Some, None, ap, sym, ◌∙◌}
use Rattle.wire_def.specs.declared.head.Order.{Order}
use Rattle.cast_stub.specs.declared.recv.Get.{Get}
use Rattle.cast_stub.specs.declared.recv.RecvOp.{RecvOp}
use Rattle.cast_stub.specs.declared.recv.RecvOp.TheOpen.{RecvOp-F}
use Rattle.cast_stub.specs.declared.recv.RecvOp.TheVariants as op
use Rattle.cast_stub.specs.declared.recv.RecvOp.TheFolds.{fold-roll-RecvOp}
use Rattle.cast_stub.specs.RecvBlock.{need, need_row, skip_any, skip_zero, pass, desc, row_block, row_wide, each, switch, if_there, call, Piece, piece_level, op_seen, code_seen, cases_seen}

pub seen-Need : (n : ℕ) → op_seen (op.Need n) ≡ need n
seen-Need n = ap op_seen (sym (op.rolls-Need n)) ∙ fold-roll-RecvOp Piece piece_level (RecvOp-F.Need n)

pub seen-NeedRow : (path : List ℕ) (unit extra : ℕ) → op_seen (op.NeedRow path unit extra) ≡ need_row path unit extra
seen-NeedRow path unit extra = ap op_seen (sym (op.rolls-NeedRow path unit extra))
    ∙ fold-roll-RecvOp Piece piece_level (RecvOp-F.NeedRow path unit extra)

pub seen-SkipAny : (n : ℕ) → op_seen (op.SkipAny n) ≡ skip_any n
seen-SkipAny n = ap op_seen (sym (op.rolls-SkipAny n)) ∙ fold-roll-RecvOp Piece piece_level (RecvOp-F.SkipAny n)

pub seen-SkipZero : (n : ℕ) → op_seen (op.SkipZero n) ≡ skip_zero n
seen-SkipZero n = ap op_seen (sym (op.rolls-SkipZero n)) ∙ fold-roll-RecvOp Piece piece_level (RecvOp-F.SkipZero n)

pub seen-Take : (size : ℕ) (gets : List Get) → op_seen (op.Take size gets) ≡ pass size gets
seen-Take size gets = ap op_seen (sym (op.rolls-Take size gets)) ∙ fold-roll-RecvOp Piece piece_level (RecvOp-F.Take size gets)

pub seen-Desc : (path : List ℕ) (name size mul : ℕ) → op_seen (op.Desc path name size mul) ≡ desc path name size mul
seen-Desc path name size mul = ap op_seen (sym (op.rolls-Desc path name size mul))
    ∙ fold-roll-RecvOp Piece piece_level (RecvOp-F.Desc path name size mul)

pub seen-Row : (path : List ℕ) (order : Order) → op_seen (op.Row path order) ≡ row_block path order
seen-Row path order = ap op_seen (sym (op.rolls-Row path order)) ∙ fold-roll-RecvOp Piece piece_level (RecvOp-F.Row path order)

pub seen-RowWide : (path : List ℕ) (order : Order) → op_seen (op.RowWide path order) ≡ row_wide path order
seen-RowWide path order = ap op_seen (sym (op.rolls-RowWide path order)) ∙ fold-roll-RecvOp Piece piece_level (RecvOp-F.RowWide path order)

pub seen-Each : (path : List ℕ) (code : List RecvOp) → op_seen (op.Each path code) ≡ each path (code_seen code)
seen-Each path code = ap op_seen (sym (op.rolls-Each path code)) ∙ fold-roll-RecvOp Piece piece_level (RecvOp-F.Each path code)

pub seen-Switch : (path : List ℕ) (cases : List (ℤ × List RecvOp)) (other : Option (List RecvOp)) → op_seen (op.Switch path cases other)
    ≡ switch path (cases_seen cases other)
seen-Switch path cases None = ap op_seen (sym (op.rolls-Switch path cases None))
    ∙ fold-roll-RecvOp Piece piece_level (RecvOp-F.Switch path cases None)
seen-Switch path cases (Some os) = ap op_seen (sym (op.rolls-Switch path cases (Some os)))
    ∙ fold-roll-RecvOp Piece piece_level (RecvOp-F.Switch path cases (Some os))

pub seen-Some : (path : List ℕ) (code : List RecvOp) → op_seen (op.Some path code) ≡ if_there path (code_seen code)
seen-Some path code = ap op_seen (sym (op.rolls-Some path code)) ∙ fold-roll-RecvOp Piece piece_level (RecvOp-F.Some path code)

pub seen-Call : (k : ℕ) (path : List ℕ) → op_seen (op.Call k path) ≡ call k path
seen-Call k path = ap op_seen (sym (op.rolls-Call k path)) ∙ fold-roll-RecvOp Piece piece_level (RecvOp-F.Call k path)

pub ruleset pieces = (
  seen-Need,
  seen-NeedRow,
  seen-SkipAny,
  seen-SkipZero,
  seen-Take,
  seen-Desc,
  seen-Row,
  seen-RowWide,
  seen-Each,
  seen-Switch,
  seen-Some,
  seen-Call,
)
