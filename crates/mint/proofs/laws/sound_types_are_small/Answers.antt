use Rattle.mint.proofs.Measuring.{sound_taken}
use Rattle.mint.proofs.laws.sound_types_are_small.Goals as goal

pub returns : goal.returns
returns c = record { depth = λ t h. (sound_taken t h).shallow; weight = λ t h. (sound_taken t h).light }
