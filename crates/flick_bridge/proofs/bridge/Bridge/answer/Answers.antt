use Rattle.flick_bridge.proofs.Answering.{digits_answer}
use Rattle.flick_bridge.proofs.bridge.Bridge.answer.Goals as goal

pub returns-in-Ok : goal.returns-in-Ok
returns-in-Ok c =
    digits_answer c.args.self.now c.args.line.now c.in-Ok.message.items c.as_slice.result.now c.of_message.result c.in-Ok.ensures.ok
    c.as_slice.ensures.value c.of_message.ensures
