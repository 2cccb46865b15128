use Rattle.std.proofs.Common.{◌≡◌, refl}
use Rattle.raw_buf.proofs.Standing.{none_fell-refl}
use Rattle.flick_lines.specs.declared.verb.Verb.TheVariants as verbs
use Rattle.flick_lines.proofs.Sending.{verb_sends}
use Rattle.flick_lines.proofs.answered.answer.Goals as goal
use Rattle.flick_engine.proofs.Replying.{any_ok as on-any}

pub returns-in-Marshal-clause-sends : goal.returns-in-Marshal-clause-sends
returns-in-Marshal-clause-sends c =
    verb_sends c.args.verb verbs.Marshal c.args.engine.now c.args.text.now c.marshal.result _ _ c.in-Marshal.is
    c.marshal.ensures.paid c.marshal.ensures.spent

pub returns-in-Unmarshal-clause-sends : goal.returns-in-Unmarshal-clause-sends
returns-in-Unmarshal-clause-sends c =
    verb_sends c.args.verb verbs.Unmarshal c.args.engine.now c.args.text.now c.unmarshal.result _ _ c.in-Unmarshal.is
    (on-any _ _ refl) (none_fell-refl _)

pub returns-in-Reply-clause-sends : goal.returns-in-Reply-clause-sends
returns-in-Reply-clause-sends c =
    verb_sends c.args.verb verbs.Reply c.args.engine.now c.args.text.now c.reply.result _ _ c.in-Reply.is
    c.reply.ensures.paid c.reply.ensures.spent

pub returns-in-Unreply-clause-sends : goal.returns-in-Unreply-clause-sends
returns-in-Unreply-clause-sends c =
    verb_sends c.args.verb verbs.Unreply c.args.engine.now c.args.text.now c.unreply.result _ _ c.in-Unreply.is
    (on-any _ _ refl) (none_fell-refl _)

pub returns-in-Count-clause-sends : goal.returns-in-Count-clause-sends
returns-in-Count-clause-sends c =
    verb_sends c.args.verb verbs.Count c.args.engine.now c.args.text.now c.count.result _ _ c.in-Count.is
    c.count.ensures.paid c.count.ensures.spent
