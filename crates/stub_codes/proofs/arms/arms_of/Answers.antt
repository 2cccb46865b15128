use Rattle.std.proofs.Common.{◌∙◌, List, sym, ap, subst}
use Rattle.mint.specs.declared.node.Node.{Node}
use Rattle.mint.specs.declared.node.Node.TheVariants as node
use Rattle.mint.specs.Types.{level, type_at, unfolded, HasChildrenBelow}
use Rattle.stub_codes.proofs.Numbering.{many_arms, type_there, node_there}
use Rattle.stub_codes.proofs.arms.arms_of.Goals as goal

pub returns-clause-many : goal.returns-clause-many
returns-clause-many c =
    let is = sym c.reply_of.ensures.type_ ∙ ap (λ (ns : List Node). type_at ns c.reply_of.result) (sym c.mint.ensures)
    ∙ c.in-Some.ensures.is ∙ ap (level (unfolded c.mint.result.now)) c.in-Choice.is in
    many_arms c.args.bound.now c.args.op c.replies_are_arms.ensures.stands c.requires (unfolded c.mint.result.now) c.in-Choice.field-0
    c.in-Choice.arms c.in-Choice.field-2 is

pub returns-clause-each : goal.returns-clause-each
returns-clause-each c =
    let is = sym c.reply_of.ensures.type_ ∙ ap (λ (ns : List Node). type_at ns c.reply_of.result) (sym c.mint.ensures)
    ∙ c.in-Some.ensures.is ∙ ap (level (unfolded c.mint.result.now)) c.in-Choice.is in
    let below : HasChildrenBelow c.reply_of.result (node.Choice c.in-Choice.field-0 c.in-Choice.arms c.in-Choice.field-2) =
    subst (HasChildrenBelow c.reply_of.result) c.in-Choice.is c.in-Some.ensures.below in
    λ k a found. (
      node_there c.args.bound.now c.args.op c.replies_are_arms.ensures.stands c.requires (unfolded c.mint.result.now) c.in-Choice.field-0
          c.in-Choice.arms c.in-Choice.field-2 is c.reply_of.result _ k a c.reply_of.ensures.node below.0 found,
      ap (λ (ns : List Node). type_at ns a.1) (sym c.mint.ensures)
          ∙ type_there c.args.bound.now c.args.op c.replies_are_arms.ensures.stands c.requires (unfolded c.mint.result.now)
          c.in-Choice.field-0 c.in-Choice.arms c.in-Choice.field-2 is k a found,
    )
