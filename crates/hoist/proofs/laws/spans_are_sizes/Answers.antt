use Rattle.hoist.proofs.SpanSizes.{are_sizes}
use Rattle.hoist.proofs.laws.spans_are_sizes.Goals as goal

pub returns : goal.returns
returns c = are_sizes
