use Rattle.std.proofs.Common.{◌≡◌, List, ap, sym, ◌∙◌, subst, arith}
use Rattle.mint.specs.declared.node.Node.{Node}
use Rattle.mint.specs.Sound.{IsSound}
use Rattle.mint.specs.Types.{type_at, unfolded}
use Rattle.std.specs.Prelude.{None, slice_get}
use Rattle.head_arms.proofs.Raising.{reply_there, reply_chooses, many_arms, few_arms}
use Rattle.head_arms.proofs.raised.exceptions_of.Goals as goal

pub unreachable-requires : goal.unreachable-requires
unreachable-requires c =
    reply_there c.args.bound.now c.args.op c.reply_of-id.result c.reply_of-id.ensures.stands c.requires c.reply_of-id.ensures.node
    (c.in_default.ensures.found ∙ ap (λ (ns : List Node). slice_get ns c.reply_of-id.result) c.mint-mint.ensures)

pub unreachable-requires-in_default-reply : goal.unreachable-requires-in_default-reply
unreachable-requires-in_default-reply c =
    let level = ap (λ (ns : List Node). type_at ns c.reply_of-id.result) (sym c.mint-mint.ensures) ∙ c.in-Some.ensures.is in
    reply_chooses c.args.bound.now c.args.op c.reply_of-id.result c.reply_of-id.ensures.stands c.requires c.reply_of-id.ensures.node
    c.in-Some.reply.now (unfolded c.mint-mint.result.now) level c.in_default-reply.not-Choice

pub overflow_cast-result : goal.overflow_cast-result
overflow_cast-result c =
    let level = ap (λ (ns : List Node). type_at ns c.reply_of-id.result) (sym c.mint-mint.ensures) ∙ c.in-Some.ensures.is in
    let sound =
    subst (λ (ns : List Node). IsSound (type_at ns c.reply_of-id.result)) c.mint-mint.ensures
    (c.types_are_sound.ensures c.reply_of-id.result) in
    let few =
    few_arms c.args.bound.now c.args.op c.reply_of-id.result c.reply_of-id.ensures.stands c.requires c.reply_of-id.ensures.node
    c.in-Some.reply.now (unfolded c.mint-mint.result.now) c.in-Choice.field-0 c.in-Choice.arms c.in-Choice.field-2 level c.in-Choice.is
    sound in
    omega (arith, few, c.len.ensures)

pub overflow_sub-result : goal.overflow_sub-result
overflow_sub-result c =
    let level = ap (λ (ns : List Node). type_at ns c.reply_of-id.result) (sym c.mint-mint.ensures) ∙ c.in-Some.ensures.is in
    let many =
    many_arms c.args.bound.now c.args.op c.reply_of-id.result c.reply_of-id.ensures.stands c.requires c.reply_of-id.ensures.node
    c.in-Some.reply.now (unfolded c.mint-mint.result.now) c.in-Choice.field-0 c.in-Choice.arms c.in-Choice.field-2 level c.in-Choice.is in
    omega (arith, many, c.len.ensures)

pub returns : goal.returns
returns c =
    let level = ap (λ (ns : List Node). type_at ns c.reply_of-id.result) (sym c.mint-mint.ensures) ∙ c.in-Some.ensures.is in
    let many =
    many_arms c.args.bound.now c.args.op c.reply_of-id.result c.reply_of-id.ensures.stands c.requires c.reply_of-id.ensures.node
    c.in-Some.reply.now (unfolded c.mint-mint.result.now) c.in-Choice.field-0 c.in-Choice.arms c.in-Choice.field-2 level c.in-Choice.is in
    omega (arith, many, c.len.ensures)
