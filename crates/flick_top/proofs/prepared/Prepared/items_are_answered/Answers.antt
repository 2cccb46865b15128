use Rattle.flick_top.proofs.Existing.{no_items}
use Rattle.flick_top.proofs.prepared.Prepared.items_are_answered.Goals as goal

pub returns-in-None : goal.returns-in-None
returns-in-None c = no_items c.args.self.now.feed c.in-None.is
