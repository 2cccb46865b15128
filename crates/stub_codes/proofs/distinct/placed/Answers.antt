use Rattle.std.proofs.Common.{arith}
use Rattle.stub_codes.proofs.Alike.{found_more, made_more, unrefused}
use Rattle.stub_codes.proofs.distinct.placed.Goals as goal

pub returns-in-Some-found-clause-same : goal.returns-in-Some-found-clause-same
returns-in-Some-found-clause-same c =
    found_more c.args.small.now c.args.mint.now c.args.ids.now c.in-Some-found.kept c.args.id c.in-Some.node.now
    c.requires.id c.requires.same c.in-Some.ensures.is c.in-Some.ensures.below c.in-Some-found.ensures

pub add-requires : goal.add-requires
add-requires c =
    unrefused c.args.small.now c.args.mint.now c.args.ids.now c.args.id c.in-Some.node.now c.in_ok-renumber.field-0
    c.requires.id c.requires.same c.in-Some.ensures.is c.in-Some.ensures.below c.in-Some.ensures.sound c.requires.few c.requires.within
    (omega (arith, c.len-count.ensures.value, c.len-count.ensures.most)) c.in_ok-renumber.ensures

pub returns-clause-same : goal.returns-clause-same
returns-clause-same c =
    made_more c.args.small.now c.add.new.small c.args.mint.now c.args.ids.now c.in_ok-made.made c.args.id c.in-Some.node.now
    c.in_ok-renumber.field-0 c.requires.id c.requires.same c.in-Some.ensures.is c.in-Some.ensures.below c.in_ok-renumber.ensures
    c.in_ok-made.ensures.ok c.in_ok-made.ensures.id
