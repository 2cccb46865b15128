use Rattle.std.proofs.lemmas.Slice.Eq.{slice_eq-Decides}
use Rattle.stub_compare.proofs.CompareLists.{Decides-option_eq}
use Rattle.stub_compare.proofs.compare_calls.are_same.Goals as goal

pub returns : goal.returns
returns c = (slice_eq-Decides Decides-option_eq c.args.a.now c.args.b.now c.eq.result c.eq.ensures).0
