use Rattle.std.specs.Int.{w32}
use Rattle.std.proofs.Common.{rules, SFits, to_z, of_z, ap, ◌∙◌}
use Rattle.std.proofs.lemmas.Int.{to_z-of_z}
use Rattle.front_onc.proofs.Steps.{items_step}
use Rattle.front_onc.proofs.enums.items.Goals as goal

pub loop-i-preserved : goal.loop-i-preserved
loop-i-preserved c =
    let fits : SFits w32 c.in_ok-n.n = search rules in
    items_step c.args.d c.args.k c.args.place _ _ c.loop-i.items c.push.new.self c.loop-i.previous c.args.list.now c.loop-i.i-index
    c.i-item.result _ c.in_ok-n.n _ c.in_ok-item_of.field-0 _
    c.loop-i.invariant c.loop-i-test.true c.i-item.is c.in_ok-n.ensures (to_z-of_z w32 c.in_ok-n.n fits)
    (c.in_ok-item_of.ensures ∙ ap (λ z. (z, to_z w32 (of_z w32 c.in_ok-n.n))) c.as_slice.ensures) c.in_ok-push.ensures.ok
