use Rattle.stub_codes.proofs.Lowering.{receivers}
use Rattle.stub_codes.proofs.lowered.receivers.Goals as goal

pub returns : goal.returns
returns c = receivers c.args.enc c.args.mint.now c.lower_recv.result c.lower_recv.ensures.many c.lower_recv.ensures.sound
    c.lower_recv.ensures.traces c.lower_recv.ensures.rows
