use Rattle.std.proofs.Common.{◌∙◌, sym, ap, rules, FitsSigned}
use Rattle.std.specs.Int.{w128}
use Rattle.std.proofs.lemmas.Int.{to_z-of_z}
use Rattle.mint.specs.Arms.{arm_found}
use Rattle.mint.specs.Types.{type_at}
use Rattle.cast_stub.specs.Draft.{tagged}
use Rattle.stub_receiver.proofs.Getting.{tag_found, tag_missing}
use Rattle.stub_receiver.proofs.gets.tag_into.Goals as goal

pub returns-in-Some-arm_of : goal.returns-in-Some-arm_of
returns-in-Some-arm_of c =
    let fits : FitsSigned w128 c.in-Some-tag_number.n = search rules in
    tag_found c.args.mint.now _ _ _ _ _ _ _ c.args.m _ _ c.in-Raw.is c.in-Some.ensures.is c.in-Choice.is
    (sym c.tag_number.ensures ∙ c.in-Some-tag_number.is) _ _
    (sym (c.arm_of.ensures ∙ ap (arm_found c.in-Choice.arms c.in-Choice.other) (to_z-of_z w128 _ fits)) ∙ c.in-Some-arm_of.is)
    (c.tag_read.ensures ∙ ap (λ n. tagged n (type_at c.args.mint.now c.in-Some-arm_of.item)) (to_z-of_z w128 _ fits))

pub returns-in-None : goal.returns-in-None
returns-in-None c =
    let fits : FitsSigned w128 c.in-Some-tag_number.n = search rules in
    tag_missing c.args.mint.now _ _ _ _ _ _ _ c.args.m _ _ c.in-Raw.is c.in-Some.ensures.is c.in-Choice.is
    (sym c.tag_number.ensures ∙ c.in-Some-tag_number.is)
    (sym (c.arm_of.ensures ∙ ap (arm_found c.in-Choice.arms c.in-Choice.other) (to_z-of_z w128 _ fits)) ∙ c.in-None.is)
