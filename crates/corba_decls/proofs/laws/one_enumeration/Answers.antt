use Rattle.corba_decls.proofs.MembersRead.{one_enumeration_only}
use Rattle.corba_decls.proofs.laws.one_enumeration.Goals as goal

pub returns : goal.returns
returns c = one_enumeration_only
