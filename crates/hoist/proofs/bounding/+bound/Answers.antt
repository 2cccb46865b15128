use Rattle.std.proofs.Common.{length, ℤ, arith, drop, ◌≡◌, List, ℕ, ap, sym, ◌∙◌}
use Rattle.mint.specs.Types.{unfolded, type_at}
use Rattle.mint.specs.Types.{arms_at as mint_arms}
use Rattle.cast_stub.specs.declared.send.SendOp.{SendOp}
use Rattle.cast_stub.specs.declared.send.SendOp.TheVariants as variants
use Rattle.cast_stub.specs.Block.{code_seen, cases_seen}
use Rattle.hoist.specs.Bound.{bound, cases_bound}
use Rattle.std.proofs.lemmas.Result.{IfOk-weaker}
use Rattle.cast_stub.specs.Block.{Block, op_seen}
use Rattle.cast_stub.specs.Parts.{on_some}
use Rattle.hoist.specs.Bound.{plus}
use Rattle.cast_stub.specs.PartTypes.{arms_at}
use Rattle.hoist.proofs.Nodes.{uneven, switch_turn}
use Rattle.hoist.proofs.bounding.+bound.Goals as goal

pub bound-returns : goal.bound-returns
bound-returns t c =
    let zero : c.loop-i.i ≡ 0 = omega (arith, c.loop-i-test.false) in
    c.loop-i.invariant ∙ ap (λ k. bound (type_at c.args.mint.now c.args.id) (code_seen (drop k c.as_slice-list.result.now))) zero
    ∙ ap (λ (l : List SendOp). bound (type_at c.args.mint.now c.args.id) (code_seen l)) c.as_slice-list.ensures

pub arms_bound-returns-then-arms-bodies : goal.arms_bound-returns-then-arms-bodies
arms_bound-returns-then-arms-bodies t c =
    uneven (unfolded c.args.mint.now) c.args.arms.now c.args.other c.args.cases.now c.args.last.now
    (λ e. absurd (c.if-arms-bodies.true (ap length c.as_slice-arms.ensures ∙ e ∙ sym (ap length c.as_slice-bodies.ensures))))

pub arms_bound-returns : goal.arms_bound-returns
arms_bound-returns t c =
    let zero : c.loop-i.i ≡ 0 = omega (arith, c.loop-i-test.false) in
    let us = unfolded c.args.mint.now in
    c.loop-i.invariant
    ∙ ap (λ k. cases_bound (mint_arms us (drop k c.as_slice-arms.result.now) c.args.other)
    (cases_seen (drop k c.as_slice-bodies.result.now) c.args.last.now)) zero
    ∙ ap (λ (l : List (ℤ × ℕ)). cases_bound (mint_arms us l c.args.other) (cases_seen c.as_slice-bodies.result.now c.args.last.now))
    c.as_slice-arms.ensures
    ∙ ap (λ (l : List (ℤ × List SendOp)). cases_bound (mint_arms us c.args.arms.now c.args.other) (cases_seen l c.args.last.now))
    c.as_slice-bodies.ensures

pub op_bound-returns-in-Switch : goal.op_bound-returns-in-Switch
op_bound-returns-in-Switch t c =
    IfOk-weaker c.switch_bound.result
    (λ n. n ≡ on_some (arms_at c.in-Switch.path (type_at c.args.mint.now c.args.id))
    (λ arms. cases_bound arms (cases_seen c.deref.result.now c.in-Switch.other)))
    (λ n. (r : Block)
    → bound (type_at c.args.mint.now c.args.id) (op_seen c.args.op.now r) ≡ plus n (bound (type_at c.args.mint.now c.args.id) r))
    (λ n e. switch_turn (type_at c.args.mint.now c.args.id) c.args.op.now c.in-Switch.path c.deref.result.now c.in-Switch.other n
    (c.in-Switch.is ∙ ap (λ (l : List (ℤ × List SendOp)). variants.Switch c.in-Switch.path l c.in-Switch.other) (sym c.deref.ensures)) e)
    c.switch_bound.ensures
