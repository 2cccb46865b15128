use Rattle.std.proofs.Common.{◌≡◌, ◌≤◌, List, ◌∷◌, length}
use Rattle.json_shape.proofs.UsualReplies.{OutsSoFar}
use Rattle.pres.specs.Faces.{faces}
use Rattle.json_shape.proofs.usual_answers.outs_next.Given as goal

-- The values after the first are those of the items that were taken.
abbrev pub invariant-loop-i : goal.invariant-loop-i
invariant-loop-i l =
    OutsSoFar (faces l.bound.nodes l.bound.shapes) l.ids l.initial.reader l.reader l._i l.fn.first l.values
