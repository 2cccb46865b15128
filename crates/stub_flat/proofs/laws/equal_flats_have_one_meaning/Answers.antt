use Rattle.stub_flat.proofs.OneMeaning.{one_meaning}
use Rattle.stub_flat.proofs.laws.equal_flats_have_one_meaning.Goals as goal

pub returns : goal.returns
returns c = one_meaning
