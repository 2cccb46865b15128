use Rattle.std.proofs.Common.{◌≡◌, sym, ap, ◌∙◌}
use Rattle.mint.specs.Types.{type_at}
use Rattle.stub_codes.proofs.Again.{has_arm, sends_again}
use Rattle.stub_codes.proofs.earlier.with_reply.Goals as goal

pub arm_type_of-requires-clause-arm : goal.arm_type_of-requires-clause-arm
arm_type_of-requires-clause-arm c =
    has_arm c.args.bound.now c.args._lead c.args.p c.args.arm c.args.minor c.args.stubs.now c.in-Some.stub.now c.in-Some-get.code.now
    c.requires.stubs (sym c.in-Some.ensures) (sym (rw (c.replies_in.ensures) at c.in-Some-get.ensures))

pub returns-then-arm_type_of : goal.returns-then-arm_type_of
returns-then-arm_type_of c =
    let one : c.arm_type_of.result ≡ c.arm_type_of-then-have_one_lead.result = c.if-arm_type_of.true in
    sends_again c.args.bound.now c.args._lead c.args.p c.args.op c.args.arm c.args.minor c.args.stubs.now c.in-Some.stub.now
    c.in-Some-get.code.now c.requires.stubs c.requires.replying (sym c.in-Some.ensures)
    (sym (rw (c.replies_in.ensures) at c.in-Some-get.ensures)) c.requires.minor
    (c.have_one_lead.ensures c.if-have_one_lead.true c.args.minor)
    (sym c.arm_type_of.ensures.type_ ∙ ap (type_at c.args.types.now.mint) one ∙ c.arm_type_of-then-have_one_lead.ensures.type_)
