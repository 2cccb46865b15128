use Rattle.flick_top.proofs.Tasks.{words_task}
use Rattle.flick_top.proofs.laws.words_have_tasks.Goals as goal

pub returns : goal.returns
returns c = words_task
