use Rattle.front_corba.proofs.Derived.{derived_whole}
use Rattle.front_corba.proofs.resolving.files_are_whole.Goals as goal

pub returns : goal.returns
returns c = derived_whole
