use Rattle.corba_decls.proofs.MembersRead.{one_structure_only}
use Rattle.corba_decls.proofs.laws.one_structure.Goals as goal

pub returns : goal.returns
returns c = one_structure_only
