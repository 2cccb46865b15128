use Rattle.std.proofs.Common.{refl}
use Rattle.flick_engine.specs.declared.errors.MessageErr.TheVariants as err
use Rattle.flick_engine.specs.Backs.{heard}
use Rattle.flick_engine.proofs.Replying.{other_err}
use Rattle.flick_engine.proofs.engine.Engine.unmarshal_reply.Goals as goal

pub returns-in-Ok-clause-memory : goal.returns-in-Ok-clause-memory
returns-in-Ok-clause-memory c e =
    (heard c.args.self.now.binding c.args.op c.in-Ok.reply, c.in-Ok.ensures.ok.0, c.in-Ok.ensures.ok.1, c.read_reply.ensures.memory e)

pub returns-in-Err-clause-memory : goal.returns-in-Err-clause-memory
returns-in-Err-clause-memory c e =
    absurd
    (other_err c.begin_reply.result _ c.in-Err.fault err.NoMemory c.in-Err.is c.begin_reply.ensures.memory refl e)
