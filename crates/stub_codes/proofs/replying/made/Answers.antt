use Rattle.std.proofs.Common.{arith}
use Rattle.mint.specs.Types.{type_at}
use Rattle.stub_codes.proofs.Chained.{reply_made}
use Rattle.stub_codes.proofs.replying.made.Goals as goal

pub body_of-requires-clause-id : goal.body_of-requires-clause-id
body_of-requires-clause-id c = omega (arith, c.arm_type_of-id.ensures.id, c.requires.lowered.many)

pub returns : goal.returns
returns c =
    let sends = rw (c.back.ensures) at c.sending.ensures in
    reply_made c.args.bound.now c.args.minor c.args.op c.args.arm (type_at c.args.types.now.mint c.arm_type_of-id.result)
    c.in_ok-lead.lead _ c.arm_type_of-id.ensures.type_ c.in_ok-lead.ensures.means sends
