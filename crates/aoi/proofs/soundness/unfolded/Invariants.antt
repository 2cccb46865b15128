use Rattle.std.proofs.Common.{◌≡◌, ◌-◌, ◌≤◌, length}
use Rattle.aoi.specs.Shapes.{seen, shapes}
use Rattle.aoi.specs.Sound.{unfolded}
use Rattle.aoi.proofs.soundness.unfolded.Given as goal

abbrev pub invariant-names : goal.invariant-names
invariant-names l = (l.left ≤ length l.types) × (unfolded l.limit (shapes l.types) l.limit (seen l.initial.ty)
    ≡ unfolded (l.limit - l.counter) (shapes l.types) l.left (seen l.ty))
