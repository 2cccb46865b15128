use Rattle.std.proofs.Common.{ap, ◌∙◌}
use Rattle.cast_stub.specs.Block.{code_seen}
use Rattle.stub_flat.specs.Places.{node_of, element, greatest}
use Rattle.stub_rooms.specs.CoversLap.{nodes}
use Rattle.stub_rooms.proofs.CoversLoops.{each_is}
use Rattle.stub_rooms.proofs.covers_standing.each_loop.Goals as goal

pub returns : goal.returns
returns c = λ R.
    let N = nodes c.args.walk.now in
    each_is N _ (code_seen c.args.body.now) _ _ _ _ R
    (c.element_at.ensures ∙ ap (λ s. element (node_of N s)) c.place_at-place.ensures)
    (c.greatest_at.ensures ∙ ap (λ s. greatest (node_of N s)) c.place_at-place.ensures) c.unit_of.ensures
