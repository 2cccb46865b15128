use Rattle.std.proofs.Common.{◌≡◌, ◌<◌, ◌≤◌, ◌+◌, drop, arith, rules, sym, subst, ap, ◌∙◌, Err, FitsSigned}
use Rattle.std.specs.Int.{w128}
use Rattle.std.proofs.lemmas.Int.{to_z-of_z}
use Rattle.mint.specs.Kinds.{IsInRange}
use Rattle.wire_def.specs.Orders.{width_as}
use Rattle.cast_stub.specs.Into.{numbers_at}
use Rattle.stub_receiver.specs.Drawn.{array_at}
use Rattle.stub_receiver.specs.Ran.{AreRead}
use Rattle.stub_receiver.proofs.Blocking.{one_near, left_turn, left_refused, left_end, passing_ranged}
use Rattle.stub_receiver.proofs.Images.{finding, missing}
use Rattle.stub_receiver.proofs.blocks.numbers_at.Goals as goal

pub push-requires : goal.push-requires
push-requires c =
    let fits : FitsSigned w128 c.in_ok-number.number = search rules in
    subst (IsInRange c.loop.row.kind) (sym (to_z-of_z w128 _ fits))
    (subst (λ k. IsInRange k c.in_ok-number.number) (sym c.loop.invariant.kind)
    (passing_ranged (array_at c.args.mint.now c.args.id) (width_as c.args.width) _ _
    (sym c.digit_number.ensures ∙ finding _ _ c.in_ok-number.ensures)))

pub returns-in_err-number-clause-numbers : goal.returns-in_err-number-clause-numbers
returns-in_err-number-clause-numbers c =
    let lt : c.loop.counter < c.args.n = omega (arith, c.loop-test.true) in
    let same : c.from_residual.result ≡ Err c.in_err-number.field-0.0 = search rules in
    let none = missing c.digit_number.result c.in_err-number.field-0.0 c.in_err-number.ensures in
    subst (λ r. AreRead r (numbers_at (array_at c.args.mint.now c.args.id) c.args.order (width_as c.args.width) c.args.width c.args.n
    (drop c.args.view.now.pos c.args.view.now.octets))) (sym (same ∙ ap Err none.1))
    (left_refused (array_at c.args.mint.now c.args.id) c.args.order c.args.width c.args.n c.args.view.now.near
    (drop c.args.view.now.pos c.args.view.now.octets) c.loop.row c.loop.counter c.loop.off c.loop.invariant _ lt c.requires.width
    c.load-m.ensures.value (sym c.digit_number.ensures ∙ none.0))

pub overflow_add-off : goal.overflow_add-off
overflow_add-off c =
    let lt : c.loop.counter < c.args.n = omega (arith, c.loop-test.true) in
    let near : c.loop.off + c.args.width ≤ c.args.view.now.near = one_near (array_at c.args.mint.now c.args.id) c.args.order c.args.width
    c.args.n c.args.view.now.near (drop c.args.view.now.pos c.args.view.now.octets) c.loop.row c.loop.counter c.loop.off
    c.loop.invariant lt in
    omega (arith, near, c.octets_left-left.ensures, c.octets_left-left.type_inv)

pub loop-preserved : goal.loop-preserved
loop-preserved c =
    let fits : FitsSigned w128 c.in_ok-number.number = search rules in
    let lt : c.loop.counter < c.args.n = omega (arith, c.loop-test.true) in
    left_turn (array_at c.args.mint.now c.args.id) c.args.order c.args.width c.args.n c.args.view.now.near
    (drop c.args.view.now.pos c.args.view.now.octets) c.loop.row c.loop.counter c.loop.off c.loop.invariant c.push.new.self _
    c.in_ok-number.number _ lt c.requires.width c.load-m.ensures.value
    (sym c.digit_number.ensures ∙ finding _ _ c.in_ok-number.ensures) (to_z-of_z w128 c.in_ok-number.number fits)
    c.in_ok-push.ensures.ok

pub returns-clause-numbers : goal.returns-clause-numbers
returns-clause-numbers c = left_end (array_at c.args.mint.now c.args.id) c.args.order c.args.width c.args.n c.args.view.now.near
    (drop c.args.view.now.pos c.args.view.now.octets) c.loop.row c.loop.counter c.loop.off c.loop.invariant
    (omega (arith, c.loop-test.false))
