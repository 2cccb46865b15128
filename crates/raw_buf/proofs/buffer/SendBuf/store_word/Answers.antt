use Rattle.std.proofs.Common.{arith, ◌+◌, ◌≤◌}
use Rattle.std.proofs.lemmas.Grind.{common_steps}
use Rattle.wire_def.specs.Orders.{in_order}
use Rattle.raw_buf.proofs.Views.{front-written}
use Rattle.raw_buf.proofs.buffer.SendBuf.store_word.Goals as goal

pub returns-clause-front : goal.returns-clause-front
returns-clause-front c =
    let memory = c.self.inside.memory in
    let within : c.args.off + c.args.width ≤ c.self.inside.ahead = grind (arith, common_steps) in
    rw (← c.self.view_is, c.write_word.ensures.value)
    (front-written memory (in_order c.args.order c.args.width c.args.v) c.self.inside.len c.self.inside.ahead c.args.off c.self.invariant.0
    (omega (arith, within, c.write_word.ensures.width)))
