use Rattle.stub_check.proofs.AsGood.{yes_good}
use Rattle.stub_check.proofs.laws.a_yes_is_as_good.Goals as goal

pub returns : goal.returns
returns c = yes_good
