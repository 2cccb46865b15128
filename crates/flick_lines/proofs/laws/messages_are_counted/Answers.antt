use Rattle.flick_lines.proofs.Counting.{all_counted}
use Rattle.flick_lines.proofs.laws.messages_are_counted.Goals as goal

pub returns : goal.returns
returns c = all_counted c.args.engine.now c.codes_match_operations.ensures c.requests_have_costs.ensures
