use Rattle.std.proofs.Common.{◌≡◌, ◌∙◌, List, None, ap, sym, subst}
use Rattle.std.specs.Prelude.{slice_get}
use Rattle.std.specs.Option.{option_copied}
use Rattle.pres.specs.declared.ops.Op.{Op}
use Rattle.pres.specs.Bindings.{Binding}
use Rattle.flick_engine.proofs.Replying.{none_there}
use Rattle.flick_engine.proofs.engine.Engine.has_reply.Goals as goal

pub returns-in-None : goal.returns-in-None
returns-in-None c =
    let own : c.ops.result.now ≡ c.args.self.now.binding.ops = c.ops.ensures.value ∙ ap (λ (b : Binding). b.ops) c.bound.ensures.value in
    let none : slice_get c.ops.result.now c.args.op ≡ None = sym c.get.ensures ∙ ap option_copied c.in-None.is in
    none_there c.args.self.now.binding.ops c.args.op (subst (λ (os : List Op). slice_get os c.args.op ≡ None) own none)
