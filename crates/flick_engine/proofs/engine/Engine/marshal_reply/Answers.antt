use Rattle.flick_engine.proofs.engine.Engine.marshal_reply.Goals as goal

pub returns-clause-ok : goal.returns-clause-ok
returns-clause-ok c = rw (c.minor.ensures.value) at c.reply_in_version.ensures.ok

pub returns-clause-short : goal.returns-clause-short
returns-clause-short c = rw (c.minor.ensures.value) at c.reply_in_version.ensures.short

pub returns-clause-cost : goal.returns-clause-cost
returns-clause-cost c = rw (c.minor.ensures.value) at c.reply_in_version.ensures.cost

pub returns-clause-covered : goal.returns-clause-covered
returns-clause-covered c = rw (c.minor.ensures.value) at c.reply_in_version.ensures.covered

pub returns-clause-sparing : goal.returns-clause-sparing
returns-clause-sparing c = rw (c.minor.ensures.value) at c.reply_in_version.ensures.sparing

pub returns-clause-long : goal.returns-clause-long
returns-clause-long c = rw (c.minor.ensures.value) at c.reply_in_version.ensures.long
