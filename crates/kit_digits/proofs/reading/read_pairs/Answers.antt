use Rattle.std.proofs.Common.{ℕ, ◌+◌, ◌*◌, slice_index, arith}
use Rattle.hex.proofs.Pairs.{decode_step, decode_done}
use Rattle.kit_digits.proofs.Digits.{pair_is}
use Rattle.kit_digits.proofs.reading.read_pairs.Goals as goal

pub loop-i-preserved : goal.loop-i-preserved
loop-i-preserved c =
    let high : ℕ = slice_index c.args.digits.now (2 * c.loop-i.i) in
    let low : ℕ = slice_index c.args.digits.now (2 * c.loop-i.i + 1) in
    decode_step _ _ c.loop-i.i _ (omega arith) (omega arith)
    (pair_is high low (2 * c.loop-i.i) _ _ c.value.ensures.value c.value-in-loop-i.ensures.value) c.loop-i.invariant

pub returns : goal.returns
returns c = decode_done _ _ c.loop-i.i (omega arith) (omega arith) c.loop-i.invariant
