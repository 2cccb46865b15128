use Rattle.std.proofs.Common.{Some, ap, sym, ◌∙◌}
use Rattle.pres.specs.Bindings.{Binding}
use Rattle.flick_engine.specs.Refusals.{reply_head}
use Rattle.flick_engine.proofs.Replying.{mach_refuses, minor_over}
use Rattle.flick_engine.proofs.Searching.{mach_call}
use Rattle.flick_engine.proofs.engine.Engine.refuse.Goals as goal

pub put_refusal-requires-in-CdrBig-clause-minor : goal.put_refusal-requires-in-CdrBig-clause-minor
put_refusal-requires-in-CdrBig-clause-minor c =
    minor_over c.args.self.now.binding.back c.args.called.now.minor
    (c.bodies_are_taken.ensures c.args.self.now.binding c.args.message.now c.args.called.now c.requires.begins).2

pub put_refusal-requires-in-CdrLittle-clause-minor : goal.put_refusal-requires-in-CdrLittle-clause-minor
put_refusal-requires-in-CdrLittle-clause-minor c =
    minor_over c.args.self.now.binding.back c.args.called.now.minor
    (c.bodies_are_taken.ensures c.args.self.now.binding c.args.message.now c.args.called.now c.requires.begins).2

pub unreachable-requires : goal.unreachable-requires
unreachable-requires c =
    let is = ap (λ (b : Binding). b.back) (sym c.bound.ensures.value) ∙ sym c.back.ensures ∙ c.in-Mach.is in
    let (call, good) = mach_call c.args.self.now.binding c.args.message.now c.args.called.now c.read_call.result is c.requires.begins
    c.read_call.ensures.spells in
    c.in_default.not-Ok call good

pub returns-in-Ok-clause-ok : goal.returns-in-Ok-clause-ok
returns-in-Ok-clause-ok c =
    let is = ap (λ (b : Binding). b.back) (sym c.bound.ensures.value) ∙ sym c.back.ensures ∙ c.in-Mach.is in
    let begins = (c.read_call.ensures.spells c.in-Ok.call).0 c.in-Ok.is in
    let ok = rw c.reply_head-head.ensures at c.put_refusal-in-Mach.ensures.ok in
    let head = reply_head c.args.self.now.binding.back c.args.called.now.head in
    mach_refuses c.put_refusal-in-Mach.result c.args.self.now.binding c.args.called.now.minor c.args.message.now head c.args.why.now
    (Some c.put_refusal-in-Mach.new.buf.done) c.in-Ok.call is begins ok
