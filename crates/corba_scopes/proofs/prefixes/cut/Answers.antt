use Rattle.corba_scopes.proofs.Cutting.{cut_last, cut_free}
use Rattle.corba_scopes.proofs.prefixes.cut.Goals as goal

pub returns-in-Some-clause-value : goal.returns-in-Some-clause-value
returns-in-Some-clause-value c = cut_last c.args.name.now c.in-Some.last c.in-Some.ensures

pub returns-in-None-clause-value : goal.returns-in-None-clause-value
returns-in-None-clause-value c = cut_free c.args.name.now c.in-None.ensures
