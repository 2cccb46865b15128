use Rattle.std.proofs.Common.{Some, None, refl, sym, ap, ◌∙◌, if◌then◌else◌}
use Rattle.cast_stub.specs.Block.{ensure_row}
use Rattle.stub_flat.specs.Places.{node_of, spot_at, has_length}
use Rattle.stub_cover.specs.Rooms.{set}
use Rattle.stub_cover.specs.Covers.{run}
use Rattle.stub_rooms.specs.CoversLap.{nodes}
use Rattle.stub_rooms.proofs.CoversGoing.{steps_of, if_has, has_follows, has_none}
use Rattle.stub_rooms.proofs.covers_standing.run_ensure_row.Goals as goal

pub returns-then-not-there : goal.returns-then-not-there
returns-then-not-there c =
    let N = nodes c.args.walk.now in
    let p = c.args.path.now in
    let h = has_length (node_of N (spot_at N p c.args.spot)) in
    steps_of _ _ (ensure_row p c.args.unit c.args.extra) (λ R. if h then Some (set c.args.extra R) else None)
    (Some (p, c.args.unit)) _ c.args.state.now None _ (λ r R. if_has h R (run N c.args.spot r (Some (p, c.args.unit))) c.args.extra)
    (has_none h c.args.extra _ (sym (c.has_length_at-there.ensures ∙ ap (λ s. has_length (node_of N s)) c.place_at.ensures)
    ∙ c.if-not-there.true)) refl

pub returns : goal.returns
returns c =
    let N = nodes c.args.walk.now in
    let p = c.args.path.now in
    let h = has_length (node_of N (spot_at N p c.args.spot)) in
    steps_of _ _ (ensure_row p c.args.unit c.args.extra) (λ R. if h then Some (set c.args.extra R) else None)
    (Some (p, c.args.unit)) _ _ _ _ (λ r R. if_has h R (run N c.args.spot r (Some (p, c.args.unit))) c.args.extra)
    (has_follows h c.args.extra _ _ (sym (c.has_length_at-there.ensures ∙ ap (λ s. has_length (node_of N s)) c.place_at.ensures)
    ∙ c.if-not-there.false) c.in_ok-credit_row.ensures.rooms)
    (refl, (refl, c.in_ok-credit_row.ensures.credit))
