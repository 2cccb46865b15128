use Rattle.std.proofs.Common.{◌∙◌}
use Rattle.stub_codes.proofs.Alike.{numbered_in}
use Rattle.stub_codes.proofs.earlier.arm_type_of.Goals as goal

pub returns-clause-id : goal.returns-clause-id
returns-clause-id c =
    (numbered_in c.args.types.now.mint c.args.bound.now.nodes c.args.types.now.ids c.as_slice.result.now c.arm_node.result
    c.number_in.result c.requires.same c.requires.many c.arm_node.ensures.node c.as_slice.ensures c.number_in.ensures).0

pub returns-clause-type_ : goal.returns-clause-type_
returns-clause-type_ c =
    (numbered_in c.args.types.now.mint c.args.bound.now.nodes c.args.types.now.ids c.as_slice.result.now c.arm_node.result
    c.number_in.result c.requires.same c.requires.many c.arm_node.ensures.node c.as_slice.ensures c.number_in.ensures).1
    ∙ c.arm_node.ensures.type_
