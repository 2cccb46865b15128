use Rattle.std.proofs.Common.{refl}
use Rattle.pres.specs.Drafts.{drawn, known}
use Rattle.pres.specs.Faces.{faces, faces_from}
use Rattle.pres.proofs.draft.Draft.new.Goals as goal

pub returns-clause-nodes : goal.returns-clause-nodes
unfolding drawn faces faces_from
returns-clause-nodes c = rw c.new.ensures.items refl

pub returns-clause-types : goal.returns-clause-types
unfolding known
returns-clause-types c = rw c.new-2.ensures refl
