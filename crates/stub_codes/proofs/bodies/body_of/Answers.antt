use Rattle.stub_codes.proofs.Uncalled.{is_body}
use Rattle.stub_codes.proofs.bodies.body_of.Goals as goal

pub inline-requires-clause-types : goal.inline-requires-clause-types
inline-requires-clause-types c = (c.args.mint.now, c.types_are_sound.ensures, c.requires.follows)

pub returns : goal.returns
returns c =
    is_body c.args.subs.now c.args.id c.inline.result c.inline.ensures.steps c.inline.ensures.subs c.inline.ensures.follows
    c.inline.ensures.turned
