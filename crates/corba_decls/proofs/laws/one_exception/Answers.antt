use Rattle.corba_decls.proofs.MembersRead.{one_exception_only}
use Rattle.corba_decls.proofs.laws.one_exception.Goals as goal

pub returns : goal.returns
returns c = one_exception_only
