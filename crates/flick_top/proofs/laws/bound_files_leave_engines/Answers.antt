use Rattle.flick_top.proofs.Leaving.{bound_leaves}
use Rattle.flick_top.proofs.laws.bound_files_leave_engines.Goals as goal

pub returns : goal.returns
returns c = bound_leaves
