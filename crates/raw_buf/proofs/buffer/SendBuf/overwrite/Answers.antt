use Rattle.std.proofs.Common.{List, ℕ, take, ap, arith}
use Rattle.std.proofs.lemmas.Grind.{common_steps}
use Rattle.raw_buf.proofs.Views.{done-overwritten, after-overwritten}
use Rattle.raw_buf.proofs.buffer.SendBuf.overwrite.Goals as goal

pub returns-clause-done : goal.returns-clause-done
returns-clause-done c =
    let memory = c.self.inside.memory in
    rw (← c.self.view_is, c.write_at.ensures)
    (done-overwritten memory c.args.octets.now c.self.inside.len c.args.at (grind (arith, common_steps))
    (grind (arith, common_steps)))

pub returns-clause-front : goal.returns-clause-front
returns-clause-front c =
    let memory = c.self.inside.memory in
    rw (← c.self.view_is, c.write_at.ensures)
    (ap (λ (o : List ℕ).
    take c.self.inside.ahead o) (after-overwritten memory c.args.octets.now c.self.inside.len c.args.at (grind (arith, common_steps))
    (grind (arith, common_steps))))
