use Rattle.std.proofs.Common.{ap, sym, ◌∙◌}
use Rattle.pres.specs.Bindings.{Binding}
use Rattle.flick_engine.proofs.Replying.{onc_due}
use Rattle.flick_engine.proofs.engine.Engine.answer_fault.Goals as goal

pub returns-in-Xdr-clause-memory : goal.returns-in-Xdr-clause-memory
returns-in-Xdr-clause-memory c =
    let is = ap (λ (b : Binding). b.back) (sym c.bound.ensures.value) ∙ sym c.back.ensures ∙ c.in-Xdr.is in
    onc_due c.answer_onc.result c.args.self.now.binding c.args.self.now.minor c.args.message.now c.args.fault is c.answer_onc.ensures.memory
