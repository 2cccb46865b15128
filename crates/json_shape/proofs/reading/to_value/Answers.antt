use Rattle.mint.specs.Values.{seen}
use Rattle.mint.specs.Typed.{IsWellTyped}
use Rattle.mint.specs.Types.{type_at}
use Rattle.json_shape.proofs.Shown.{read_presents, none_presented, misfit_presented, shape_gives_none}
use Rattle.json_shape.proofs.reading.to_value.Goals as goal

pub returns-in-Ok-clause-value : goal.returns-in-Ok-clause-value
returns-in-Ok-clause-value c =
    let typed = rw c.mint.ensures at (c.fits.ensures.0 c.if-fits.true) in
    read_presents _ _ _ _ c.in-Some.ensures.type_ c.in-Ok.ensures typed

pub returns-in-Ok-2-clause-shape : goal.returns-in-Ok-2-clause-shape
returns-in-Ok-2-clause-shape c same =
    let misfit =
    λ (t : IsWellTyped (type_at c.args.bound.now.nodes c.args.id) (seen c.in-Ok.value)). let yes = c.fits.ensures.1
    (rw (← c.mint.ensures) at t) in absurd cc in
    misfit_presented _ _ _ _ c.in-Some.ensures.type_ c.in-Ok.ensures misfit

pub returns-in-Err-clause-shape : goal.returns-in-Err-clause-shape
returns-in-Err-clause-shape c is = none_presented _ _ (shape_gives_none seen c.in-Err.error _ c.in-Err.ensures is)
