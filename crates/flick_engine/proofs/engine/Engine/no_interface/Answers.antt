use Rattle.std.proofs.Common.{◌≡◌, ◌∙◌, List, map, ap, sym, subst}
use Rattle.wire_def.specs.declared.encoding.Back.{Back}
use Rattle.aoi.specs.declared.interfaces.Interface.{Interface}
use Rattle.aoi.specs.Plain.{PlainUnit, PlainInterface, plain_interface}
use Rattle.pres.specs.Bindings.{Binding}
use Rattle.flick_engine.specs.Refusals.{NoInterfaceOver, no_version, range, versions}
use Rattle.flick_engine.proofs.Searching.{onc_call}
use Rattle.flick_engine.proofs.engine.Engine.no_interface.Goals as goal

pub unreachable-requires : goal.unreachable-requires
unreachable-requires c =
    let is = ap (λ (b : Binding). b.back) (sym c.bound.ensures.value) ∙ sym c.back.ensures ∙ c.in-Xdr.is in
    let (call, good) = onc_call c.args.self.now.binding c.args.message.now c.args.called.now c.read_call.result is c.requires
    c.read_call.ensures.spells in
    c.in_default.not-Ok call good

pub returns-in-Ok-clause-value : goal.returns-in-Ok-clause-value
returns-in-Ok-clause-value c =
    let is = ap (λ (b : Binding). b.back) (sym c.bound.ensures.value) ∙ sym c.back.ensures ∙ c.in-Xdr.is in
    let begins = (c.read_call.ensures.spells c.in-Ok.call).0 c.in-Ok.is in
    let own : map plain_interface c.unit.result.now.interfaces ≡ c.args.self.now.binding.unit.interfaces =
    ap (λ (u : PlainUnit). u.interfaces) c.unit.ensures ∙ ap (λ (b : Binding). b.unit.interfaces) c.bound-in-Xdr.ensures.value in
    let stored =
    ap (λ (is : List Interface).
    range (versions c.in-Ok.call.program (map plain_interface is))) (c.as_slice.ensures ∙ c.interfaces-interfaces.ensures) in
    let plain = ap (λ (is : List PlainInterface). range (versions c.in-Ok.call.program is)) own in
    let why = c.no_version.ensures ∙ ap no_version (c.range_of.ensures ∙ stored ∙ plain) in
    subst
    (λ (k : Back).
    NoInterfaceOver k c.args.self.now.binding c.args.message.now c.no_version.result) (sym is) (c.in-Ok.call, begins, why)
