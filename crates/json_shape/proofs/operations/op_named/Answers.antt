use Rattle.std.proofs.Common.{◌≡◌, ◌+◌, ◌∙◌, ℕ, Some, ap, arith}
use Rattle.json_shape.proofs.Seeking.{first_sought, are_plain, leads_in, sought_on, found_here, there_at, sought_through}
use Rattle.json_shape.proofs.operations.op_named.Goals as goal

pub loop-k-init : goal.loop-k-init
loop-k-init c = first_sought c.args.bound.now c.args.text.now c.ops.ensures.stands

pub count_of-count-requires : goal.count_of-count-requires
count_of-count-requires c =
    leads_in c.args.bound.now c.args.text.now c.loop-k.from c.loop-k.k c.as_slice-interface-items.result.now c.interface-item.result
    c.loop-k.invariant
    (are_plain c.args.bound.now c.unit.result.now c.interfaces.result.now c.as_slice-interface-items.result.now
    c.unit.ensures c.interfaces.ensures c.as_slice-interface-items.ensures)
    c.loop-k-test.true c.interface-item.is c.back.result c.as_slice-ops.result.now c.back.ensures
    (c.as_slice-ops.ensures ∙ c.ops.ensures.value)

pub loop-k-preserved : goal.loop-k-preserved
loop-k-preserved c =
    sought_on c.args.bound.now c.args.text.now c.loop-k.from c.loop-k.k c.as_slice-interface-items.result.now c.interface-item.result
    c.loop-k.invariant
    (are_plain c.args.bound.now c.unit.result.now c.interfaces.result.now c.as_slice-interface-items.result.now
    c.unit.ensures c.interfaces.ensures c.as_slice-interface-items.ensures)
    c.loop-k-test.true c.interface-item.is c.back.result c.as_slice-ops.result.now c.back.ensures
    (c.as_slice-ops.ensures ∙ c.ops.ensures.value)
    c.count_of-count.result c.as_slice.result.now c.as_slice.ensures c.count_of-count.ensures.value c.in_default.ensures.place

pub returns-in-Some-clause-found : goal.returns-in-Some-clause-found
returns-in-Some-clause-found c =
    let same : c.in-Ok.number ≡ c.loop-k.from + c.in-Some.place = omega (arith, c.in-Ok.ensures) in
    ap (λ (n : ℕ). Some (n, c.index-ops-from.result)) same
    ∙ found_here c.args.bound.now c.args.text.now c.loop-k.from c.loop-k.k c.as_slice-interface-items.result.now c.interface-item.result
    c.loop-k.invariant
    (are_plain c.args.bound.now c.unit.result.now c.interfaces.result.now c.as_slice-interface-items.result.now
    c.unit.ensures c.interfaces.ensures c.as_slice-interface-items.ensures)
    c.loop-k-test.true c.interface-item.is c.back.result c.as_slice-ops.result.now c.back.ensures
    (c.as_slice-ops.ensures ∙ c.ops.ensures.value)
    c.count_of-count.result c.as_slice.result.now c.as_slice.ensures c.count_of-count.ensures.value
    c.in-Some.place c.index-ops-from.result c.in-Some.ensures.place c.in-Some.ensures.within c.index-ops-from.is

pub returns-in-Some-clause-there : goal.returns-in-Some-clause-there
returns-in-Some-clause-there c =
    let same : c.in-Ok.number ≡ c.loop-k.from + c.in-Some.place = omega (arith, c.in-Ok.ensures) in
    there_at c.as_slice-ops.result.now c.args.bound.now.ops c.loop-k.from c.count_of-count.result c.in-Some.place c.in-Ok.number
    c.index-ops-from.result (c.as_slice-ops.ensures ∙ c.ops.ensures.value) c.loop-k.invariant.within c.in-Some.ensures.within same
    c.index-ops-from.is

pub returns-clause-found : goal.returns-clause-found
returns-clause-found c =
    sought_through c.args.bound.now c.args.text.now c.loop-k.from c.loop-k.k c.as_slice-interface-items.result.now c.loop-k.invariant
    (are_plain c.args.bound.now c.unit.result.now c.interfaces.result.now c.as_slice-interface-items.result.now
    c.unit.ensures c.interfaces.ensures c.as_slice-interface-items.ensures)
    (omega (arith, c.loop-k-test.false))
