use Rattle.std.proofs.Common.{ap, drop}
use Rattle.mint.specs.Types.{type_at}
use Rattle.cast_stub.specs.Got.{reported}
use Rattle.stub_receiver.specs.Ran.{place_of}
use Rattle.stub_receiver.proofs.Running.{whole_is, exactly}
use Rattle.stub_receiver.proofs.recv.run_recv.Goals as goal

pub returns-in-Ok-clause-got : goal.returns-in-Ok-clause-got
returns-in-Ok-clause-got c = ap reported (whole_is c.args.code.now (type_at c.args.mint.now c.args.id) (place_of c.args.view.now) _ _
    c.deepest_call.ensures c.in-Ok.ensures.done)

pub returns-in-Ok-clause-exact : goal.returns-in-Ok-clause-exact
returns-in-Ok-clause-exact c = λ e exact.
    exactly e (type_at c.args.mint.now c.args.id) c.args.view.now.pos (drop c.args.view.now.pos c.args.view.now.octets) _ _ _
    (whole_is c.args.code.now (type_at c.args.mint.now c.args.id) (place_of c.args.view.now) _ _ c.deepest_call.ensures
    c.in-Ok.ensures.done) exact
