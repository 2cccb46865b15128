use Rattle.stub_codes.proofs.Costing.{replies_cost}
use Rattle.stub_codes.proofs.laws.replies_have_costs.Goals as goal

pub returns : goal.returns
returns c = replies_cost
