use Rattle.back_mach.proofs.Coding.{last_made}
use Rattle.back_mach.proofs.leads.last_words.Goals as goal

pub returns-else-arms-eq0 : goal.returns-else-arms-eq0
returns-else-arms-eq0 c =
    last_made c.constant-else-arms-eq0.result c.args.arms c.args.arm c.if-arms-eq0.false c.constant-else-arms-eq0.ensures
