use Rattle.json_shape.proofs.UsualRecords.{array_taken}
use Rattle.json_shape.proofs.usual_args.array_next.Goals as goal

pub returns-then-fits-clause-value : goal.returns-then-fits-clause-value
returns-then-fits-clause-value c =
    let typed = rw c.mint.ensures at (c.fits.ensures.0 c.if-fits.true) in
    array_taken _ _ _ _ _ _ c.in_ok-value.ensures.typed c.in_ok-value.ensures.value c.in_ok-value.ensures.listed typed
