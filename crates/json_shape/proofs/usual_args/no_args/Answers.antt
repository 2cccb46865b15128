use Rattle.json_shape.proofs.UsualRecords.{empty_presented}
use Rattle.json_shape.proofs.usual_args.no_args.Goals as goal

pub returns-then-fits-clause-value : goal.returns-then-fits-clause-value
returns-then-fits-clause-value c =
    let typed = rw c.mint.ensures at (c.fits.ensures.0 c.if-fits.true) in
    empty_presented _ _ _ c.in_ok-value.ensures.typed c.in_ok-value.ensures.value typed
