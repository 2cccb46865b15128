use Rattle.stub_codes.proofs.Numbering.{answered}
use Rattle.stub_codes.proofs.arms.replies_are_arms.Goals as goal

pub returns-clause-answer : goal.returns-clause-answer
returns-clause-answer c = answered c.args.bound.now c.args.op c.ops-ops.ensures.stands c.requires
