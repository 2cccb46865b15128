use Rattle.std.proofs.Common.{◌∙◌, ap, false}
use Rattle.std.specs.Prelude.{Option}
use Rattle.std.specs.Option.{option_map_or}
use Rattle.serde_json.specs.Data.{Members}
use Rattle.json_shape.specs.Presents.{is_arm}
use Rattle.json_shape.proofs.Lookups.{known_members}
use Rattle.json_shape.proofs.objects.has_arm_members.Goals as goal

pub returns : goal.returns
returns c =
    c.has_arm_keys.ensures ∙ known_members c.in-Some.members.now
    ∙ ap (λ (o : Option Members). option_map_or is_arm o false) c.in-Some.ensures
