use Rattle.pres.proofs.Tabling.{reported_cause}
use Rattle.pres.proofs.build.add.Goals as goal

pub reported-requires : goal.reported-requires
reported-requires c = λ other. c.requires _ (c.in-Err.ensures.cause other)

pub returns-in-Err-clause-cause : goal.returns-in-Err-clause-cause
returns-in-Err-clause-cause c = reported_cause _ _ _ c.reported.ensures.heavy c.reported.ensures.memory c.in-Err.ensures.cause
    (λ other. c.requires _ (c.in-Err.ensures.cause other))
