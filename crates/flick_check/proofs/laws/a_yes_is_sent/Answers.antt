use Rattle.std.proofs.Common.{ap, ◌∙◌, subst}
use Rattle.mint.specs.Types.{IsTable}
use Rattle.pres.specs.Bindings.{Binding}
use Rattle.flick_check.proofs.Sending.{yes_sent}
use Rattle.flick_check.proofs.laws.a_yes_is_sent.Goals as goal

pub returns : goal.returns
returns c =
    yes_sent c.args.engine.now
    (subst IsTable (c.mint.ensures ∙ ap (λ (b : Binding). b.nodes) c.bound.ensures.value) c.nodes_are_a_table.ensures)
    c.codes_match_operations.ensures
