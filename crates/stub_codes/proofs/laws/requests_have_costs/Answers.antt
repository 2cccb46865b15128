use Rattle.stub_codes.proofs.Costing.{requests_cost}
use Rattle.stub_codes.proofs.laws.requests_have_costs.Goals as goal

pub returns : goal.returns
returns c = requests_cost
