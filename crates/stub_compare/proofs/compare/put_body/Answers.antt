use Rattle.stub_compare.proofs.ComparePuts.{body_put, body_nothing}
use Rattle.stub_compare.proofs.compare.put_body.Goals as goal

pub returns-in_ok-behind-in-Some : goal.returns-in_ok-behind-in-Some
returns-in_ok-behind-in-Some c =
    body_put c.args.mint.now c.args.spot c.in-Some.field-0 c.args.body.now c.in_ok-behind-in-Some.behind c.is_some.result c.every.result
    c.args.out.now c.put_number.new.out c.put_ops.new.out c.in-Some.is c.is_some.ensures c.every.ensures
    c.in_ok-put_number-in-Some.ensures c.in_ok-behind-in-Some.ensures

pub returns-in-None : goal.returns-in-None
returns-in-None c = body_nothing c.args.mint.now c.args.spot c.args.body.now _ c.in-None.is
