use Rattle.std.proofs.Common.{◌∙◌, ap, subst}
use Rattle.pres.specs.Bindings.{Binding}
use Rattle.back_cdr.specs.Targets.{IsCdr}
use Rattle.flick_engine.proofs.Picking.{raise_over}
use Rattle.flick_engine.proofs.engine.Engine.raise_with.Goals as goal
use Rattle.stub_codes.proofs.Leading.{either_cdr}

pub returns-in-CdrBig : goal.returns-in-CdrBig
returns-in-CdrBig c =
    let own = c.back.ensures ∙ ap (λ (b : Binding). b.back) c.bound.ensures.value in
    let cdr = subst IsCdr own (either_cdr c.back.result c.in-CdrBig.is) in
    c.raise.ensures
    ∙ raise_over c.args.self.now.binding.back c.args.self.now.binding c.names.result.now c.args.op c.args.id.now cdr c.names.ensures
