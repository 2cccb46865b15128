use Rattle.front_corba.proofs.Room.{few_at, few_kept, none_there}
use Rattle.front_corba.proofs.resolving.add_interfaces.Goals as goal

pub interface_of-requires-clause-few : goal.interface_of-requires-clause-few
interface_of-requires-clause-few c = few_at c.args.list.now c.loop-place.place c.index-list-place.result c.requires.fit
    c.loop-place-test.true c.index-list-place.is

pub add_interface-requires-clause-few : goal.add_interface-requires-clause-few
add_interface-requires-clause-few c =
    let i = c.index-list-place.result in
    let few = few_at c.args.list.now c.loop-place.place i c.requires.fit c.loop-place-test.true c.index-list-place.is in
    few_kept c.in_ok-interface_of.field-0 c.loop-place.place i c.in_ok-interface_of.ensures few

pub add_interface-requires-clause-other : goal.add_interface-requires-clause-other
add_interface-requires-clause-other c =
    none_there c.args.list.now c.loop-place.unit.interfaces c.loop-place.place c.index-list-place.result c.in_ok-interface_of.field-0
    c.requires.fit
    c.loop-place.invariant.ahead c.loop-place-test.true c.index-list-place.is c.in_ok-interface_of.ensures
