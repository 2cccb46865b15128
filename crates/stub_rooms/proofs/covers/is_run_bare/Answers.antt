use Rattle.std.proofs.Common.{List, Bool, None, ap, ◌∙◌}
use Rattle.cast_stub.specs.Block.{code_seen}
use Rattle.stub_flat.specs.Residues.{every}
use Rattle.stub_cover.specs.Rooms.{on}
use Rattle.stub_cover.specs.Covers.{run}
use Rattle.stub_places.specs.Sets.{each_of, set_of}
use Rattle.stub_rooms.specs.CoversLap.{nodes}
use Rattle.stub_rooms.proofs.CoversGoing.{some_shown}
use Rattle.stub_rooms.proofs.covers.is_run_bare.Goals as goal

pub returns : goal.returns
returns c =
    c.is_some.ensures
    ∙ some_shown (run (nodes c.args.walk.now) c.args.spot (code_seen c.args.ops.now) None) (on every 0) _ _
    (c.bare-start.ensures ∙ ap (λ (l : List Bool). each_of (on (set_of l) 0)) c.every.ensures) c.in_ok-end.ensures
