use Rattle.std.proofs.Common.{ap, ◌∙◌}
use Rattle.mint.specs.Types.{type_at}
use Rattle.hoist.specs.Regions.{is_light}
use Rattle.hoist.specs.SpanSizes.{sizes}
use Rattle.hoist.proofs.OnWay.{light-first, no-way}
use Rattle.hoist.proofs.roles.+is_on_way.Goals as goal

pub returns-then-is_light : goal.returns-then-is_light
returns-then-is_light t c = light-first (sizes c.args.classes.now.enc) c.args.path.now (type_at c.args.mint.now c.args.id)
    (c.if-is_light.ensures ∙ ap is_light c.top_of.ensures)

pub returns-in_default : goal.returns-in_default
returns-in_default t c = no-way (sizes c.args.classes.now.enc) c.args.path.now (type_at c.args.mint.now c.args.id)
    c.in_default.ensures.cases (c.if-is_light.ensures ∙ ap is_light c.top_of.ensures)
