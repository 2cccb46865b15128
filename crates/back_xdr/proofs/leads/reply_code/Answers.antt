use Rattle.back_xdr.proofs.Coding.{bare_leads, arm_leads}
use Rattle.back_xdr.proofs.leads.reply_code.Goals as goal

pub returns-then-arms-eq0-clause-means : goal.returns-then-arms-eq0-clause-means
returns-then-arms-eq0-clause-means c = bare_leads c.args.arms c.args.arm c.code_of.result c.if-arms-eq0.true c.code_of.ensures.means

pub returns-else-arms-eq0-clause-means : goal.returns-else-arms-eq0-clause-means
returns-else-arms-eq0-clause-means c =
    arm_leads c.args.arms c.args.arm c.code_of-else-arms-eq0.result c.if-arms-eq0.false c.code_of-else-arms-eq0.ensures.means
