use Rattle.stub_codes.proofs.Lowering.{lowered}
use Rattle.stub_codes.proofs.lowered.lower_all.Goals as goal

pub returns : goal.returns
returns c =
    lowered c.args.back c.args.mint.now c.encoding_of-enc.result c.other_of.result _ c.encoding_of-enc.ensures c.other_of.ensures
    c.in_ok-sends.ensures.many c.in_ok-sends.ensures.means c.in_ok-sends.ensures.follows c.in_ok-sends.ensures.rows
    c.in_ok-classes.ensures.encoding c.in_ok-classes.ensures.spans c.in_ok-recvs.ensures c.in_ok-others.ensures
