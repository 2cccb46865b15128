use Rattle.mig_syntax.specs.Derivation.{Derives, FailsAt}
use Rattle.front_mig.specs.Resolved.{resolved}
use Rattle.flick_top.proofs.UnitsOfFronts.{tree-says}
use Rattle.flick_top.proofs.fronts.mig_tokens.Goals as goal

pub returns-in-Ok-clause-says : goal.returns-in-Ok-clause-says
returns-in-Ok-clause-says c =
    tree-says Derives FailsAt resolved c.args.tokens.now c.in-Ok.tree c.mig_tree.result c.in-Ok.ensures.tree c.mig_tree.ensures.says
