use Rattle.std.proofs.Common.{List, ℕ, ap, ◌∙◌, length, take}
use Rattle.raw_buf.specs.declared.tally.Tally.{Tally}
use Rattle.raw_buf.specs.Buf.{checked}
use Rattle.raw_buf.proofs.buffer.SendBuf.ensure.Goals as goal

pub returns-clause-ok : goal.returns-clause-ok
returns-clause-ok c =
    let room = c.in_ok-make_room.ensures in
    let last = c.count_check.ensures in
    record {
      done = last.done ∙ room.done;
      kept = ap (λ (o : List ℕ). take (length c.args.self.now.front) o) last.front ∙ room.kept;
      ahead = ap (λ (o : List ℕ). length o) last.front ∙ room.ahead;
      tally = last.tally ∙ ap (λ (t : Tally). checked t) room.tally;
      spent = last.spent ∙ ap (λ (t : Tally). checked t) room.spent;
    }
