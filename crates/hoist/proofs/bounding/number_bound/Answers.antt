use Rattle.std.proofs.Common.{◌≡◌, List, ap, ◌∙◌, arith, drop}
use Rattle.mint.specs.Types.{Scalar, scalar_type}
use Rattle.cast_stub.specs.declared.send.SendOp.{SendOp}
use Rattle.cast_stub.specs.Block.{code_seen}
use Rattle.hoist.specs.Bound.{bound}
use Rattle.hoist.proofs.bounding.number_bound.Goals as goal

pub returns : goal.returns
returns c = λ (s : Scalar).
    let zero : c.loop-i.i ≡ 0 = omega (arith, c.loop-i-test.false) in
    c.loop-i.invariant s ∙ ap (λ k. bound (scalar_type s) (code_seen (drop k c.as_slice-list.result.now))) zero
    ∙ ap (λ (l : List SendOp). bound (scalar_type s) (code_seen l)) c.as_slice-list.ensures
