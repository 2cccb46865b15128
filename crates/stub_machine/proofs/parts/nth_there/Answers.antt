use Rattle.stub_machine.proofs.PartLaws.{place_there, field_there}
use Rattle.stub_machine.proofs.parts.nth_there.Goals as goal

pub bounds-as_slice-n : goal.bounds-as_slice-n
bounds-as_slice-n c = rw c.as_slice.ensures (place_there c.args.values.now c.args.n c.requires)

pub returns : goal.returns
returns c = field_there c.args.values.now c.args.n c.index-as_slice-n.result c.requires (rw c.as_slice.ensures at c.index-as_slice-n.is)
