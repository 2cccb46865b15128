use Rattle.flick_top.proofs.Tasking.{report-ends}
use Rattle.flick_top.proofs.prepared.Prepared.of_report.Goals as goal

pub returns-clause-ready : goal.returns-clause-ready
returns-clause-ready c = (report-ends c.args.report c.status.result c.status.ensures, tt)
