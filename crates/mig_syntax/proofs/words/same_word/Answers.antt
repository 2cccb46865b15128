use Rattle.mig_syntax.proofs.Cases.{same}
use Rattle.mig_syntax.proofs.words.same_word.Goals as goal

pub returns : goal.returns
returns c = same c.eq_ignore_ascii_case.result c.args.a.now c.args.b.now c.eq_ignore_ascii_case.ensures.test
