use Rattle.stub_receiver.specs.Ran.{place_of}
use Rattle.stub_receiver.proofs.Flattening.{plain_read, inner_read}
use Rattle.stub_receiver.proofs.flat.read_struct.Goals as goal

pub returns-in_ok-alone-in-true : goal.returns-in_ok-alone-in-true
returns-in_ok-alone-in-true c = inner_read c.args.nested (place_of c.args.view.now) _ c.in_ok-values.field-0 c.in-Some.values _
    c.in_ok-values.ensures c.in-Some.is c.in-true.is c.in_ok-alone-in-true.ensures

pub returns-in-false : goal.returns-in-false
returns-in-false c = plain_read c.args.nested (place_of c.args.view.now) _ c.in_ok-values.field-0 c.in-Some.values
    c.in_ok-values.ensures c.in-Some.is c.in-false.is
