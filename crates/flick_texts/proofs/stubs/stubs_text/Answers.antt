use Rattle.std.proofs.Common.{map, ap, ◌∙◌}
use Rattle.aoi.specs.Plain.{PlainUnit, plain_interface}
use Rattle.pres.specs.Bindings.{Binding}
use Rattle.flick_texts.specs.StubTexts.{both_texts}
use Rattle.flick_texts.proofs.Listing.{next_listed}
use Rattle.flick_texts.proofs.stubs.stubs_text.Goals as goal

pub loop-i-preserved : goal.loop-i-preserved
loop-i-preserved c =
    next_listed both_texts c.args.engine.now c.as_slice-op-items.result.now c.as_slice-interfaces.result.now c.loop-i.i
    c.in_ok-number_of.field-0 c.op-item.result c.in_ok-name.name c.loop-i.out c.append_both.new.out c.codes_match_operations.ensures.many
    (c.as_slice-op-items.ensures ∙ c.ops.ensures.value ∙ ap (λ (b : Binding). b.ops) c.bound-2.ensures.value)
    (ap (map plain_interface) (c.as_slice-interfaces.ensures ∙ c.interfaces.ensures)
    ∙ ap (λ (u : PlainUnit). u.interfaces) c.unit.ensures ∙ ap (λ (b : Binding). b.unit.interfaces) c.bound.ensures.value)
    c.loop-i-test.true c.op-item.is c.in_ok-name.ensures c.in_ok-number_of.ensures c.in_ok-append_both.ensures.text c.loop-i.invariant
