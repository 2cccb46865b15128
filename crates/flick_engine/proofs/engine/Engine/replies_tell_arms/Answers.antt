use Rattle.std.proofs.Common.{sym, subst}
use Rattle.mint.specs.Types.{Ty}
use Rattle.pres.specs.Bindings.{Binding, IsBinding}
use Rattle.pres.specs.Offers.{type_faces}
use Rattle.flick_engine.specs.Replies.{IsChoice}
use Rattle.flick_engine.proofs.Arming.{reply_choice}
use Rattle.flick_engine.proofs.ArmsReported.{reported_arm}
use Rattle.stub_codes.proofs.ReplyTypes.{are_the_replies}
use Rattle.flick_engine.proofs.engine.Engine.replies_tell_arms.Goals as goal

pub returns-clause-choice : goal.returns-clause-choice
returns-clause-choice c =
    let b = c.args.self.now.binding in
    let stands = subst (λ (x : Binding). IsBinding x) c.bound.ensures.value c.ops-ops.ensures.stands in
    let (i, p, is, same) = are_the_replies b c.args.op stands c.requires.op in
    subst (λ (t : Ty). IsChoice t) (sym same) (reply_choice (type_faces b.unit) p)

pub returns-clause-reported : goal.returns-clause-reported
returns-clause-reported c =
    let stands = subst (λ (x : Binding). IsBinding x) c.bound.ensures.value c.ops-ops.ensures.stands in
    reported_arm c.args.self.now.binding c.args.op stands c.requires.op
