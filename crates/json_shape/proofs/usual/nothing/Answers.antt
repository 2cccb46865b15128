use Rattle.json_shape.proofs.Seen.{seen-Void}
use Rattle.json_shape.proofs.UsualReading.{null_taken}
use Rattle.json_shape.proofs.usual.nothing.Goals as goal

pub returns : goal.returns
returns c = null_taken _ _ _ c.in_ok-null_next.ensures seen-Void
