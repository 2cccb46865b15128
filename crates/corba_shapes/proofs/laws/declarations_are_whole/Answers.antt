use Rattle.corba_shapes.proofs.Derived.{declaration_whole}
use Rattle.corba_shapes.proofs.laws.declarations_are_whole.Goals as goal

pub returns : goal.returns
returns c = declaration_whole
