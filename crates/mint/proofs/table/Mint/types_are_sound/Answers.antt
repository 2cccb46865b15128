use Rattle.mint.proofs.Measuring.{each_sound}
use Rattle.mint.proofs.table.Mint.types_are_sound.Goals as goal

pub returns : goal.returns
returns c = rw (← c.self.view_is) (each_sound _ _ c.self.invariant)
