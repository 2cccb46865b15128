use Rattle.std.proofs.Common.{◌∙◌}
use Rattle.mint.specs.Values.{seen}
use Rattle.json_shape.specs.Requests.{request_json}
use Rattle.json_shape.proofs.RecordTokens.{text_is}
use Rattle.json_shape.proofs.printed_records.text_of_record.Goals as goal

pub returns : goal.returns
returns c =
    text_is c.new-out.result c.put_record.new.out (request_json c.args.bound.now c.args.op.now c.args.head.now (seen c.args.value.now))
    c.into_inner.result.items (c.new-out.ensures.before ∙ c.in_ok-with_capacity.ensures.items) c.new-out.ensures.tokens
    c.in_ok-put_record.ensures c.into_inner.ensures.items
