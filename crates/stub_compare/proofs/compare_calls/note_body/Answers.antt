use Rattle.cast_stub.specs.Block.{code_seen}
use Rattle.stub_compare.proofs.CompareNoted.{body_noted, body_kept}
use Rattle.stub_compare.proofs.compare_calls.note_body.Goals as goal

pub returns-in-Some-clause-noted : goal.returns-in-Some-clause-noted
returns-in-Some-clause-noted c = body_noted _ c.args.spot c.in-Some.field-0
    (code_seen c.args.body.now) _ _ _ c.in-Some.is c.note_ops.ensures.noted

pub returns-in-None-clause-noted : goal.returns-in-None-clause-noted
returns-in-None-clause-noted c = body_kept _ c.args.spot (code_seen c.args.body.now) _ c.in-None.is
