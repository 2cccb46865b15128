use Rattle.std.proofs.Common.{sym}
use Rattle.stub_receiver.proofs.Over.{missing_over}
use Rattle.stub_receiver.proofs.looping.elements_at.Goals as goal

pub returns-in_default : goal.returns-in_default
returns-in_default c = missing_over c.args.mint.now c.args.id (sym c.in_default.ensures.found)
