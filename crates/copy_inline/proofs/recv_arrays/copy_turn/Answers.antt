use Rattle.std.proofs.Common.{◌≡◌, Some, List, refl, ap, sym, ◌∙◌, subst}
use Rattle.cast_stub.specs.declared.recv.RecvOp.{RecvOp}
use Rattle.cast_stub.specs.RecvBlock.{Recv, finish, op_seen, code_seen}
use Rattle.cast_stub.specs.Traces.{descs}
use Rattle.cast_stub.proofs.Directions.{receives}
use Rattle.cast_stub.proofs.Trees.{op_has, one_more}
use Rattle.copy_inline.proofs.RecvRowEmitting.{both_flat}
use Rattle.copy_inline.proofs.recv_arrays.copy_turn.Goals as goal

pub put_copy-requires : goal.put_copy-requires
put_copy-requires c =
    subst (λ (o : RecvOp). descs (op_seen o finish) ≡ Some 0) (sym c.op-item.is)
    (op_has receives (λ (b : Recv). descs b ≡ Some 0) both_flat c.as_slice-op-items.result.now c.loop-op.op-index c.op-item.result
    c.loop-op-test.true
    (ap (λ (l : List RecvOp). descs (code_seen l)) c.as_slice-op-items.ensures ∙ c.requires))

pub loop-op-preserved : goal.loop-op-preserved
loop-op-preserved c =
    one_more receives (λ (b : Recv). b) (λ a b. refl) c.as_slice-op-items.result.now c.loop-op.op-index c.op-item.result finish _ _
    c.loop-op-test.true c.op-item.is c.loop-op.invariant
    c.in_ok-put_copy.ensures
