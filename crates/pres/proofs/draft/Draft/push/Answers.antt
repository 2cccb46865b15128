use Rattle.std.proofs.Common.{refl, arith, length-append, ◌∷◌, []}
use Rattle.pres.specs.Drafts.{drawn}
use Rattle.pres.specs.Faces.{level}
use Rattle.pres.proofs.draft.Draft.push.Goals as goal

pub returns-then-id-ge-MOST_NODES-clause-cause : goal.returns-then-id-ge-MOST_NODES-clause-cause
returns-then-id-ge-MOST_NODES-clause-cause c =
    λ ne. (
      refl,
      omega (
        arith,
        c.len-id.ensures.value,
        length-append (drawn c.args.self.now) (level (drawn c.args.self.now) c.args.node c.args.shape ∷ []),
      ),
    )
