use Rattle.flick_engine.proofs.engine.Engine.answer_request.Goals as goal

pub reply_in_version-requires-clause-minor : goal.reply_in_version-requires-clause-minor
reply_in_version-requires-clause-minor g c =
    (c.bodies_are_taken.ensures c.args.self.now.binding c.args.message.now c.args.called.now c.requires.begins).2
