use Rattle.std.proofs.Common.{sym}
use Rattle.pres.proofs.Facing.{face_at-level, type_at-face, named_at, shapeless}
use Rattle.pres.proofs.bound.Bound.part.Goals as goal

pub returns-in_err-node-clause-type_ : goal.returns-in_err-node-clause-type_
returns-in_err-node-clause-type_ c = rw (← c.self.view_is) (type_at-face _ _ c.args.id c.self.invariant.stands.named)

pub returns-in_err-shape-clause-none : goal.returns-in_err-shape-clause-none
returns-in_err-shape-clause-none c = rw (c.from_residual-in_err-shape.ensures, ← c.self.view_is)
    (shapeless _ _ c.args.id c.self.invariant.stands.named c.in_err-shape.ensures)

pub returns-in_err-shape-clause-type_ : goal.returns-in_err-shape-clause-type_
returns-in_err-shape-clause-type_ c = rw (← c.self.view_is) (type_at-face _ _ c.args.id c.self.invariant.stands.named)

pub returns-clause-named : goal.returns-clause-named
returns-clause-named c =
    named_at _ _ c.args.id _ _ c.self.invariant.stands.named (sym c.in_ok-node.ensures.found) (sym c.in_ok-shape.ensures)

pub returns-clause-is : goal.returns-clause-is
returns-clause-is c =
    rw (← c.self.view_is) (face_at-level _ _ c.args.id _ _ (sym c.in_ok-node.ensures.found) (sym c.in_ok-shape.ensures)
    c.in_ok-node.ensures.below)

pub returns-clause-type_ : goal.returns-clause-type_
returns-clause-type_ c = rw (← c.self.view_is) (type_at-face _ _ c.args.id c.self.invariant.stands.named)
