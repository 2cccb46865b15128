use Rattle.json_shape.proofs.UsualRecords.{line_record}
use Rattle.json_shape.proofs.usual_requests.request_in.Goals as goal

pub returns-clause-request : goal.returns-clause-request
returns-clause-request c =
    line_record _ _ _ _ _ _ c.in_ok-reader.ensures.ok c.in_ok-begin_members.ensures c.in_ok-record.ensures.request c.in_ok-end.ensures
