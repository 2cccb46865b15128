use Rattle.flick_top.proofs.Coding.{verb-coded}
use Rattle.flick_top.proofs.Writing.{bridge-sends}
use Rattle.flick_top.proofs.job.Job.answer.Goals as goal

pub answered_by-requires : goal.answered_by-requires
answered_by-requires c =
    record { answers = verb-coded c.args.self.now c.in-Over.verb c.in-Over.engine c.in-Over.is c.requires.replies }

pub returns-in_ok-message-in-Bridge-clause-sends : goal.returns-in_ok-message-in-Bridge-clause-sends
returns-in_ok-message-in-Bridge-clause-sends c =
    bridge-sends c.with_end-in-Bridge.result c.args.self.now c.in-Bridge.bridge c.args.text.now c.args.buf.now c.in-Bridge.is
