use Rattle.std.proofs.Common.{sym}
use Rattle.pres.proofs.Fielded.{many}
use Rattle.pres.proofs.fields.count_of.Goals as goal

pub returns : goal.returns
returns c = sym (many c.args.fields.now)
