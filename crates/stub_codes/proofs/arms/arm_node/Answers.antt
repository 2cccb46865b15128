use Rattle.std.proofs.Common.{sym}
use Rattle.stub_codes.proofs.arms.arm_node.Goals as goal

pub returns-clause-node : goal.returns-clause-node
returns-clause-node c = (c.arms_of.ensures.each c.args.arm c.in-Some.field-0.now (sym c.in-Some.ensures)).0

pub returns-clause-type_ : goal.returns-clause-type_
returns-clause-type_ c = (c.arms_of.ensures.each c.args.arm c.in-Some.field-0.now (sym c.in-Some.ensures)).1
