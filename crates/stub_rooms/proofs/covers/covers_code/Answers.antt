use Rattle.stub_rooms.proofs.CoversList.{code_refused, list_answer}
use Rattle.stub_rooms.proofs.covers.covers_code.Goals as goal

pub returns-then-not-runs : goal.returns-then-not-runs
returns-then-not-runs c = code_refused _ _ _ c.in_ok-runs.ensures c.if-not-runs.true

pub returns : goal.returns
returns c =
    list_answer c.args.mint.now _ _ c.args.spots.now _ _ _ c.as_slice.ensures c.in_ok-runs.ensures c.if-not-runs.false c.are_run.ensures
