use Rattle.std.proofs.Common.{refl}
use Rattle.flick_engine.specs.declared.errors.MessageErr.TheVariants as err
use Rattle.flick_engine.proofs.Replying.{other_err}
use Rattle.flick_engine.proofs.engine.Engine.read_message.Goals as goal

pub returns-in-Ok-clause-memory : goal.returns-in-Ok-clause-memory
returns-in-Ok-clause-memory c e = (c.in-Ok.called, c.in-Ok.op, c.in-Ok.ensures.ok)

pub returns-in-Err-clause-memory : goal.returns-in-Err-clause-memory
returns-in-Err-clause-memory c e =
    absurd (other_err c.begin.result _ c.in-Err.fault err.NoMemory c.in-Err.is c.begin.ensures.memory refl e)
