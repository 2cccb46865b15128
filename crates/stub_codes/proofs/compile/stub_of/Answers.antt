use Rattle.mint.specs.Types.{type_at}
use Rattle.stub_codes.proofs.Chained.{stub_made}
use Rattle.stub_codes.proofs.compile.stub_of.Goals as goal

pub returns-clause-is : goal.returns-clause-is
returns-clause-is c =
    let sends = rw (c.back-back.ensures) at c.in_ok-send.ensures in
    stub_made c.args.bound.now c.args.minor c.args.op (type_at c.args.types.now.mint c.request_type_of-id.result) c.in_ok-lead.lead _
    c.request_type_of-id.ensures.type_
    c.in_ok-lead.ensures.means sends c.in_ok-recv.ensures.recv c.in_ok-recv.ensures.other
    c.in_ok-replies.ensures.arms
