use Rattle.corba_decls.proofs.SequencesRead.{one_only}
use Rattle.corba_decls.proofs.laws.one_type.Goals as goal

pub returns : goal.returns
returns c = one_only
