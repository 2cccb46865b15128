use Rattle.stub_cover.proofs.Law.{covers_is_covered}
use Rattle.stub_cover.proofs.laws.what_covers_is_covered.Goals as goal

pub returns : goal.returns
returns c = covers_is_covered
