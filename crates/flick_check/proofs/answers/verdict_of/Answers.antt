use Rattle.std.proofs.Common.{ap, ◌∙◌}
use Rattle.pres.specs.Bindings.{Binding}
use Rattle.flick_check.proofs.Sending.{covered_at}
use Rattle.flick_check.proofs.answers.verdict_of.Goals as goal

pub check-requires : goal.check-requires
check-requires c = record {
  kept = covered_at c.args.engine.now.binding c.args.op c.mint.result.now c.request_of-node.result c.send_code.result.now
      (c.mint.ensures ∙ ap (λ (b : Binding). b.nodes) c.bound.ensures.value) c.request_of-node.ensures c.send_code.ensures.sends.covered;
}
