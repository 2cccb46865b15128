use Rattle.std.proofs.Common.{◌∙◌, map}
use Rattle.aoi.specs.Plain.{plain_raise}
use Rattle.pres.specs.Faces.{face_at}
use Rattle.json_shape.specs.Replies.{outcome_members, reply_with}
use Rattle.json_shape.proofs.RecordTokens.{text_is}
use Rattle.json_shape.proofs.printed_replies.text_of_record.Goals as goal

pub returns : goal.returns
returns c =
    let b = c.args.bound.now in
    let op = c.args.op.now in
    let members = outcome_members (map plain_raise c.args.raises.now) (face_at b.nodes b.shapes op.reply) c.args.outcome.now in
    text_is c.new-out.result c.put_reply.new.out (reply_with b op c.args.head.now members)
    c.into_inner.result.items (c.new-out.ensures.before ∙ c.in_ok-with_capacity.ensures.items) c.new-out.ensures.tokens
    c.in_ok-put_reply.ensures c.into_inner.ensures.items
