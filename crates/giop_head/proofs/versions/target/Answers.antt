use Rattle.giop_head.specs.Items.{short_place}
use Rattle.giop_head.proofs.Steps.{target_above}
use Rattle.giop_head.proofs.versions.target.Goals as goal

pub returns-else-kind-le2 : goal.returns-else-kind-le2
returns-else-kind-le2 c = (
  short_place c.args.at.place,
  target_above c.args.minor c.args.order c.args.at.place c.args.at.rest.now _ _ _ c.if-minor-eq0.false c.in_ok-kind.ensures
      c.if-kind-le2.false,
)
