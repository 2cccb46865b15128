use Rattle.std.proofs.Common.{refl}
use Rattle.flick_top.proofs.Piping.{piped-long}
use Rattle.flick_top.proofs.job.Job.too_long.Goals as goal

pub returns-in-Pipe : goal.returns-in-Pipe
returns-in-Pipe c = (piped-long c.args.self.now c.in-Pipe.field-0 c.new.result c.in-Pipe.is c.new.ensures, refl)
