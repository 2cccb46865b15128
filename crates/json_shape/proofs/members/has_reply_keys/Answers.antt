use Rattle.std.proofs.Common.{◌∙◌, ap, false}
use Rattle.std.specs.Prelude.{Option}
use Rattle.std.specs.Option.{option_map_or}
use Rattle.serde_json.specs.Data.{Members}
use Rattle.json_shape.specs.Members.{each_key}
use Rattle.json_shape.specs.Replies.{is_reply_key}
use Rattle.json_shape.proofs.Lookups.{keyed}
use Rattle.json_shape.proofs.members.has_reply_keys.Goals as goal

pub returns-in-Some : goal.returns-in-Some
returns-in-Some c =
    c.are_reply_keys.ensures ∙ keyed (is_reply_key c.args.back) c.in-Some.members.now
    ∙ ap (λ (o : Option Members). option_map_or (each_key (is_reply_key c.args.back)) o false) c.in-Some.ensures
