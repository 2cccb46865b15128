use Rattle.std.proofs.Common.{arith}
use Rattle.std.proofs.lemmas.Bool.Decides.{nat_tests}
use Rattle.mint.proofs.Measuring.{armed}
use Rattle.mint.proofs.labelling.is_armless.Goals as goal

pub returns-else-len-eq0 : goal.returns-else-len-eq0
returns-else-len-eq0 c = λ ts. let h = armed ts c.args.arms.now c.args.other (omega arith) in grind (arith, nat_tests)
