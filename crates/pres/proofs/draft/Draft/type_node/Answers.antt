use Rattle.std.proofs.Common.{arith, ap, length}
use Rattle.pres.specs.Drafts.{Sketch}
use Rattle.pres.proofs.Drafting.{type_drawn, known-length}
use Rattle.pres.proofs.draft.Draft.type_node.Goals as goal

pub bounds-as_slice-k : goal.bounds-as_slice-k
bounds-as_slice-k c =
    omega (
      arith,
      ap length c.as_slice.ensures,
      known-length c.args.self.now,
      ap (λ (s : Sketch). length s.types) c.self.view_is,
      c.requires,
    )

pub returns : goal.returns
returns c =
    rw (c.as_slice.ensures, ← c.self.view_is)
    (type_drawn _ _ 0 c.self.invariant
    (omega (arith, known-length c.args.self.now, ap (λ (s : Sketch). length s.types) c.self.view_is, c.requires)))
