use Rattle.json_shape.proofs.UsualReplies.{inner_taken}
use Rattle.json_shape.proofs.usual_replies.in_group.Goals as goal

pub returns : goal.returns
returns c = inner_taken _ _ _ _ _ _ c.in_ok-head.ensures
