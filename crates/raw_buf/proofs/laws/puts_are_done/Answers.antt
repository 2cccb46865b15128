use Rattle.raw_buf.proofs.Keeping.{puts}
use Rattle.raw_buf.proofs.laws.puts_are_done.Goals as goal

pub returns : goal.returns
returns c = puts
