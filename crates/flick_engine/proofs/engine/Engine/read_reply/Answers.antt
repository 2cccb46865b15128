use Rattle.flick_engine.specs.Backs.{ids_over}
use Rattle.flick_engine.proofs.AnsweringReplies.{arm_takes, kept_id}
use Rattle.flick_engine.proofs.engine.Engine.read_reply.Goals as goal

pub returns-in_err-arm-clause-memory : goal.returns-in_err-arm-clause-memory
returns-in_err-arm-clause-memory c e =
    kept_id (ids_over c.args.self.now.binding.back c.args.self.now.binding c.args.op) c.args.reply.now.status c.in_err-arm.ensures.memory

pub returns-in-Arm-clause-memory : goal.returns-in-Arm-clause-memory
returns-in-Arm-clause-memory c e = arm_takes c.in_ok-arm.field-0 _ c.in-Arm.arm c.in_ok-arm.ensures.value c.in-Arm.is

pub returns-in-Refused-clause-memory : goal.returns-in-Refused-clause-memory
returns-in-Refused-clause-memory c e = absurd (c.reported_by_refusal.ensures.memory e)
