use Rattle.bench_stubs.proofs.Readying.{alone_given}
use Rattle.bench_stubs.proofs.run.Goals as goal

pub hoist-requires-clause-given : goal.hoist-requires-clause-given
hoist-requires-clause-given c = alone_given _ c.in-Ok.id _ c.in-Ok-inline.code (c.types_are_sound.ensures c.in-Ok.id)
    c.in-Ok-lower_send.ensures.follows c.in-Ok-inline.ensures.follows c.in-Ok-inline.ensures.subs

pub inline-requires-clause-types : goal.inline-requires-clause-types
inline-requires-clause-types c = (c.in-Ok.table, c.types_are_sound.ensures, c.in-Ok-lower_send.ensures.follows)
