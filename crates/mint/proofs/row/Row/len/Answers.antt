use Rattle.std.proofs.Common.{length, ap}
use Rattle.mint.specs.Row.{Numbers}
use Rattle.mint.proofs.Places.{numbers_many}
use Rattle.mint.proofs.row.Row.len.Goals as goal

pub returns : goal.returns
returns c = rw (c.len.ensures, c.width.ensures, ← numbers_many c.self.inside.kind c.self.inside.image)
    (ap (λ (r : Numbers). length r.numbers) c.self.view_is)
