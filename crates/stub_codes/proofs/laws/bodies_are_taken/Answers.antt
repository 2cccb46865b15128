use Rattle.stub_codes.proofs.Taken.{taken}
use Rattle.stub_codes.proofs.laws.bodies_are_taken.Goals as goal

pub returns : goal.returns
returns c = taken
