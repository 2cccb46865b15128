use Rattle.std.proofs.Common.{ℤ, List, refl, ap, ◌∙◌}
use Rattle.cast_stub.specs.declared.recv.RecvOp.{RecvOp}
use Rattle.cast_stub.specs.RecvBlock.{cases_seen}
use Rattle.cast_stub.proofs.Directions.{receives}
use Rattle.chunker.specs.RecvLeft.{leave, switched}
use Rattle.chunker.proofs.Bodies.{switch_left}
use Rattle.chunker.proofs.recv_leaving.+leave.Goals as goal

pub leave_op-returns-in-Switch-clause-is : goal.leave_op-returns-in-Switch-clause-is
leave_op-returns-in-Switch-clause-is t c r =
    switch_left receives leave switched (λ ph p x s. refl) c.args.op.now c.in-Switch.field-0 c.in-Switch.cases c.in-Switch.last
    c.args.phase c.switched.result r c.in-Switch.is (c.switched.ensures.is
    ∙ ap (λ (l : List (ℤ × List RecvOp)). switched c.args.phase (cases_seen l c.in-Switch.last)) c.deref.ensures)
