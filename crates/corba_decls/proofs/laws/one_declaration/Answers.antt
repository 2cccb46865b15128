use Rattle.corba_decls.proofs.DeclarationsRead.{one_only}
use Rattle.corba_decls.proofs.laws.one_declaration.Goals as goal

pub returns : goal.returns
returns c = one_only
