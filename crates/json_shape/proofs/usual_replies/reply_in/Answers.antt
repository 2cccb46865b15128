use Rattle.json_shape.proofs.UsualRecords.{line_record}
use Rattle.json_shape.proofs.usual_replies.reply_in.Goals as goal

pub returns-clause-reply : goal.returns-clause-reply
returns-clause-reply c =
    line_record _ _ _ _ _ _ c.in_ok-reader.ensures.ok c.in_ok-begin_members.ensures c.in_ok-record.ensures.reply c.in_ok-end.ensures
