use Rattle.front_corba.specs.Held.{held}
use Rattle.front_corba.proofs.Whole.{fit_after}
use Rattle.front_corba.proofs.resolving.resolve.Goals as goal

pub unit_of-requires : goal.unit_of-requires
unit_of-requires c =
    fit_after c.args.tree.now c.as_slice.result.now (held c.new-r.result) (held c.define_all.new.r) c.requires c.as_slice.ensures
    c.new-r.ensures c.in_ok-define_all.ensures
