use Rattle.mint.specs.Types.{type_at}
use Rattle.stub_round.proofs.Received.{code_holds, is_exact}
use Rattle.stub_codes.proofs.receive.received.Goals as goal

pub run_recv-requires : goal.run_recv-requires
run_recv-requires c =
    code_holds c.args._enc (type_at c.args.mint.now c.args.id) c.args.code.now c.args.view.now c.requires.receives.sound c.requires.place
    c.rest_of-rest.ensures.octets c.rest_of-rest.ensures.within c.requires.short

pub returns-clause-spelled : goal.returns-clause-spelled
returns-clause-spelled c =
    c.run_recv.ensures.exact c.args._enc (is_exact c.args._enc (type_at c.args.mint.now c.args.id) c.args.code.now c.args.view.now
    c.requires.receives.sound c.requires.place
    c.rest_of-rest.ensures.octets c.rest_of-rest.ensures.within c.requires.short)
