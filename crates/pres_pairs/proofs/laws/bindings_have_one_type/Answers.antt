use Rattle.pres_pairs.proofs.Pairing.{pairs_have_one_type}
use Rattle.pres_pairs.proofs.laws.bindings_have_one_type.Goals as goal

pub returns : goal.returns
returns c = pairs_have_one_type
