use Rattle.pres.proofs.Drafting.{sketch_name, named_drawn, named_known}
use Rattle.pres.proofs.draft.Draft.name.Goals as goal

pub invariant_of-self-2 : goal.invariant_of-self-2
invariant_of-self-2 c = rw c.in_ok-push.ensures.ok (sketch_name _ c.args.id c.self.invariant (rw c.self.view_is c.requires))

pub returns-clause-nodes : goal.returns-clause-nodes
returns-clause-nodes c = rw (c.in_ok-push.ensures.ok, ← c.self.view_is) (named_drawn _ c.args.id)

pub returns-clause-types : goal.returns-clause-types
returns-clause-types c = rw (c.in_ok-push.ensures.ok, ← c.self.view_is) (named_known _ c.args.id)
