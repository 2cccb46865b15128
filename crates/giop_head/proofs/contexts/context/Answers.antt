use Rattle.std.proofs.Common.{refl}
use Rattle.giop_head.specs.Contexts.{read_context}
use Rattle.giop_head.proofs.contexts.context.Goals as goal

pub returns : goal.returns
unfolding read_context
returns c = ((c.in_ok-at.field-0-0, c.in_ok-at-2.field-0-0.now), rw (c.in_ok-at.ensures, c.in_ok-at-2.ensures) refl)
