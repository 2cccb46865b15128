use Rattle.flick_top.proofs.Tasking.{answers-end}
use Rattle.flick_top.proofs.prepared.Prepared.of_answers.Goals as goal

pub returns-clause-ready : goal.returns-clause-ready
returns-clause-ready c = (answers-end _ c.answers_status-status.result c.answers_status-status.ensures, tt)
