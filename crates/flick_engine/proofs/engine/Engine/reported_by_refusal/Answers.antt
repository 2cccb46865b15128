use Rattle.std.proofs.Common.{sym, ◌∙◌}
use Rattle.flick_engine.specs.Backs.{heard}
use Rattle.flick_engine.proofs.AnsweringReplies.{is_followed_refusal, is_refusal}
use Rattle.flick_engine.proofs.engine.Engine.reported_by_refusal.Goals as goal

pub returns-then-is_followed-clause-read : goal.returns-then-is_followed-clause-read
returns-then-is_followed-clause-read c =
    is_followed_refusal c.args.self.now.binding c.args.op c.args.message.now (heard c.args.self.now.binding c.args.op c.args.reply.now)
    c.args.why c.requires.says (sym c.is_followed.ensures ∙ c.if-is_followed.true)

pub returns-clause-read : goal.returns-clause-read
returns-clause-read c =
    is_refusal c.args.self.now.binding c.args.op c.args.message.now (heard c.args.self.now.binding c.args.op c.args.reply.now) c.args.why
    c.requires.says (sym c.is_followed.ensures ∙ c.if-is_followed.false)
