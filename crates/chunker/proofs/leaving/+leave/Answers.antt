use Rattle.std.proofs.Common.{ℤ, List, refl, ap, ◌∙◌}
use Rattle.cast_stub.specs.declared.send.SendOp.{SendOp}
use Rattle.cast_stub.specs.Block.{cases_seen}
use Rattle.cast_stub.proofs.Directions.{sends}
use Rattle.chunker.specs.Left.{leave, switched}
use Rattle.chunker.proofs.Bodies.{switch_left}
use Rattle.chunker.proofs.leaving.+leave.Goals as goal

pub leave_op-returns-in-Switch-clause-is : goal.leave_op-returns-in-Switch-clause-is
leave_op-returns-in-Switch-clause-is t c r =
    switch_left sends leave switched (λ ph p x s. refl) c.args.op.now c.in-Switch.field-0 c.in-Switch.cases c.in-Switch.last
    c.args.phase c.switched.result r c.in-Switch.is (c.switched.ensures.is
    ∙ ap (λ (l : List (ℤ × List SendOp)). switched c.args.phase (cases_seen l c.in-Switch.last)) c.deref.ensures)
