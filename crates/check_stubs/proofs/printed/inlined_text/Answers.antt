use Rattle.check_stubs.proofs.printed.inlined_text.Goals as goal

pub inline-requires-clause-types : goal.inline-requires-clause-types
inline-requires-clause-types c = (c.args.table.now, c.types_are_sound.ensures, c.in_ok-subs.ensures.follows)
