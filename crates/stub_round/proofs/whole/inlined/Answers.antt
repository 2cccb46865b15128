use Rattle.std.proofs.Common.{arith, ◌<◌, length}
use Rattle.std.proofs.lemmas.Result.{IfOk-weaker}
use Rattle.cast_stub.specs.declared.recv.RecvCode.{RecvCode}
use Rattle.stub_round.proofs.Received.{kept}
use Rattle.stub_round.proofs.whole.inlined.Goals as goal

pub returns : goal.returns
returns c =
    let lt : c.args.id < length c.in_ok-subs.subs = omega (arith, c.requires, c.in_ok-subs.ensures.many) in
    IfOk-weaker c.inline_recv.result _ _
    (λ (code : RecvCode) h. kept c.args.enc c.args.mint.now c.in_ok-subs.subs c.args.id code lt c.in_ok-subs.ensures.sound h)
    c.inline_recv.ensures.same
