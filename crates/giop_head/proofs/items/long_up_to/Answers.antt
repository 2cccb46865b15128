use Rattle.std.proofs.Common.{refl}
use Rattle.std.proofs.lemmas.Bool.{lt-leb}
use Rattle.giop_head.specs.Items.{long_place}
use Rattle.giop_head.proofs.items.long_up_to.Goals as goal

pub returns-else-n-most-clause-read : goal.returns-else-n-most-clause-read
returns-else-n-most-clause-read c = (long_place c.args.at.place, rw (c.in_ok-n.ensures, lt-leb _ _ c.if-n-most.false) refl)
