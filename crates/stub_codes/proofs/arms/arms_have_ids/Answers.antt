use Rattle.stub_codes.proofs.ArmIds.{arms_few}
use Rattle.stub_codes.proofs.arms.arms_have_ids.Goals as goal

pub returns : goal.returns
returns c cdr = arms_few c.args.bound.now c.args.op c.ops-ops.ensures.stands c.requires.op cdr c.args.arm c.requires.arm
