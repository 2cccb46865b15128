use Rattle.std.proofs.Common.{ap, ◌∙◌, option_map}
use Rattle.stub_flat.specs.Places.{node_of, row_kind}
use Rattle.stub_rooms.specs.CoversLap.{nodes}
use Rattle.stub_rooms.proofs.CoversLoops.{row_same}
use Rattle.stub_rooms.proofs.covers_standing.wide_loop.Goals as goal

pub returns : goal.returns
returns c = λ R.
    let N = nodes c.args.walk.now in
    c.row_loop.ensures N R
    ∙ row_same N _ _ _ _ _ _ R c.place_at-place.ensures
    (c.four.ensures ∙ ap (λ s. option_map (λ k. 4) (row_kind (node_of N s))) c.place_at-place.ensures) c.unit_of.ensures
