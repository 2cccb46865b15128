use Rattle.flick_top.proofs.Coding.{can-reply}
use Rattle.flick_top.proofs.dispatch.answering.Goals as goal

pub of_job-requires : goal.of_job-requires
of_job-requires c = record { replies = can-reply c.args.verb c.args.engine c.requires.answers }
