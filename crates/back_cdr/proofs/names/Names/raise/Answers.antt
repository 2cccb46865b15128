use Rattle.back_cdr.proofs.Raising.{none_past}
use Rattle.back_cdr.proofs.names.Names.raise.Goals as goal

pub returns-in-None : goal.returns-in-None
returns-in-None c = none_past c.args.self.now c.args.op c.args.id.now c.in-None.ensures
