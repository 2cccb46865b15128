use Rattle.std.proofs.Common.{◌≡◌, ◌<◌, ◌≤◌, ◌-◌, suc, arith, length, sym, ap, ◌∙◌, subst, List, Some, OnOk, OnErr}
use Rattle.stub_machine.proofs.Sizes.{code_size, op-in-code, each-in-op, case-in-op, default-in-op, called-is-less}
use Rattle.mint.specs.Values.{seen, all_seen, Val}
use Rattle.mint.specs.declared.value.Value.{Value}
use Rattle.cast_stub.specs.declared.send.SendOp.{SendOp}
use Rattle.cast_stub.specs.Steps.{Steps, code_steps, over}
use Rattle.stub_machine.specs.Run.{state_of, Runs, Ends}
use Rattle.cast_stub.specs.Subs.{calls_of}
use Rattle.stub_machine.proofs.Running.{each_runs, block_fits, block_step, items_fit, items_step, numbers_fit, numbers_step, call_is, call_ends, switch_ends, switch_runs}
use Rattle.stub_machine.proofs.Growing.{block_broken, block_grown, items_grown, numbers_grown, each_grown, switch_grown, err_map, on_err}
use Rattle.stub_machine.specs.Run.{Grown}
use Rattle.kit_base.specs.Limits.{longest_message}
use Rattle.stub_machine.proofs.Picks.{picked_body, default_steps, nothing_steps, ok_map}
use Rattle.stub_machine.proofs.operations.+run.Goals as goal

pub run_block-run_op-requires : goal.run_block-run_op-requires
run_block-run_op-requires t c =
    let r = subst (λ (ops : List SendOp). Runs (code_steps (calls_of c.args.machine.now.subs.now c.args.machine.now.head.now c.args.calls)
    c.args.machine.now.head.now ops (seen c.args.value.now)) (state_of c.args.buf.now)) (sym c.as_slice-op-items.ensures) c.requires in (
      omega (arith, op-in-code _ _ c.op-item.result c.loop-op-test.true c.op-item.is, ap code_size c.as_slice-op-items.ensures),
      block_fits _ _ _ _ _ c.op-item.result _ _ c.loop-op.invariant.left c.loop-op-test.true c.op-item.is r,
    )

pub run_items-run_block-requires : goal.run_items-run_block-requires
run_items-run_block-requires t c =
    let r = subst
    (λ (vs : List Value). Runs (over (code_steps (calls_of c.args.machine.now.subs.now c.args.machine.now.head.now c.args.calls)
    c.args.machine.now.head.now c.args.body.now) (all_seen vs)) (state_of c.args.buf.now)) (sym c.as_slice-value-items.ensures)
    c.requires in
    (omega arith, items_fit _ _ _ c.value-item.result _ _ c.loop-value.invariant c.loop-value-test.true c.value-item.is r)

pub run_items-loop-value-preserved : goal.run_items-loop-value-preserved
run_items-loop-value-preserved t c =
    items_step _ _ _ c.value-item.result _ _ _ c.loop-value.invariant c.loop-value-test.true c.value-item.is c.in_ok-run_block.ensures.ok

pub run_numbers-run_block-requires : goal.run_numbers-run_block-requires
run_numbers-run_block-requires t c =
    let lt : c.loop-i.i < length c.args.row.now.numbers = omega arith in
    let r = numbers_fit _ _ _ _ _ c.loop-i.invariant lt c.requires in (
      omega arith,
      subst (λ (v : Val). Runs (code_steps (calls_of c.args.machine.now.subs.now c.args.machine.now.head.now c.args.calls)
          c.args.machine.now.head.now c.args.body.now v) (state_of c.loop-i.buf)) (sym c.number_at-number.ensures) r,
    )

pub run_numbers-loop-i-preserved : goal.run_numbers-loop-i-preserved
run_numbers-loop-i-preserved t c =
    let lt : c.loop-i.i < length c.args.row.now.numbers = omega arith in
    numbers_step _ _ _ _ _ _ c.loop-i.invariant lt
    (subst (λ (v : Val). Ends (code_steps (calls_of c.args.machine.now.subs.now c.args.machine.now.head.now c.args.calls)
    c.args.machine.now.head.now c.args.body.now v) (state_of c.loop-i.buf) (state_of c.run_block.new.buf)) c.number_at-number.ensures
    c.in_ok-run_block.ensures.ok)

pub run_op-returns-in-Call-clause-ok : goal.run_op-returns-in-Call-clause-ok
run_op-returns-in-Call-clause-ok t c = ok_map c.run_called.result _ _
    (call_ends (calls_of c.args.machine.now.subs.now c.args.machine.now.head.now c.args.calls) c.args.machine.now.head.now
    (seen c.args.value.now) c.args.op.now _ _ _ _ c.in-Call.is) c.run_called.ensures.ok

pub run_op-run_block-requires : goal.run_op-run_block-requires
run_op-run_block-requires t c =
    let k = calls_of c.args.machine.now.subs.now c.args.machine.now.head.now c.args.calls in
    let r = switch_runs k c.args.machine.now.head.now (seen c.args.value.now) c.args.op.now c.in-Switch.path c.in-Switch.cases
    c.in-Switch.other _ c.in-Switch.is c.requires in
    let e = picked_body k c.args.machine.now.head.now (seen c.args.value.now) c.in-Switch.path c.in-Switch.cases c.as_slice.result.now
    c.in-Switch.other c.in-Some-arm_at.n.now (seen c.in-Some-arm_at.inner.now) c.in-Some-position.i c.index-as_slice-i.result
    c.in-Some-arm_at.ensures c.in-Some-position.ensures (c.as_slice.ensures ∙ c.deref.ensures) in
    let less = case-in-op c.args.op.now c.in-Switch.path c.in-Switch.cases c.as_slice.result.now c.in-Switch.other c.in-Some-position.i
    c.index-as_slice-i.result c.in-Switch.is c.in-Some-position.ensures.0 (c.as_slice.ensures ∙ c.deref.ensures) in
    (omega (arith, less), subst (λ (x : Steps). Runs x (state_of c.args.buf.now)) e r)

pub run_op-returns-in-Some-position-clause-ok : goal.run_op-returns-in-Some-position-clause-ok
run_op-returns-in-Some-position-clause-ok t c =
    let k = calls_of c.args.machine.now.subs.now c.args.machine.now.head.now c.args.calls in
    let e = picked_body k c.args.machine.now.head.now (seen c.args.value.now) c.in-Switch.path c.in-Switch.cases c.as_slice.result.now
    c.in-Switch.other c.in-Some-arm_at.n.now (seen c.in-Some-arm_at.inner.now) c.in-Some-position.i c.index-as_slice-i.result
    c.in-Some-arm_at.ensures c.in-Some-position.ensures (c.as_slice.ensures ∙ c.deref.ensures) in
    ok_map c.run_block.result _ _ (switch_ends k c.args.machine.now.head.now (seen c.args.value.now) c.args.op.now c.in-Switch.path
    c.in-Switch.cases c.in-Switch.other (state_of c.args.buf.now) (state_of c.run_block.new.buf) c.in-Switch.is)
    (subst (λ (x : Steps). OnOk c.run_block.result (Ends x (state_of c.args.buf.now) (state_of c.run_block.new.buf))) (sym e)
    c.run_block.ensures.ok)

pub run_op-run_block-requires-in-Some-other : goal.run_op-run_block-requires-in-Some-other
run_op-run_block-requires-in-Some-other t c =
    let k = calls_of c.args.machine.now.subs.now c.args.machine.now.head.now c.args.calls in
    let r = switch_runs k c.args.machine.now.head.now (seen c.args.value.now) c.args.op.now c.in-Switch.path c.in-Switch.cases
    c.in-Switch.other _ c.in-Switch.is c.requires in
    let e = default_steps k c.args.machine.now.head.now (seen c.args.value.now) c.in-Switch.path c.in-Switch.cases c.in-Switch.other
    c.in-Some-arm_at.n.now (seen c.in-Some-arm_at.inner.now) c.deref-in-Some-other.result.now (sym c.in-Some-arm_at.ensures)
    c.in-None.ensures (c.in-Some-other.is ∙ ap Some (sym c.deref-in-Some-other.ensures)) in
    let less = default-in-op c.args.op.now c.in-Switch.path c.in-Switch.cases c.in-Switch.other c.deref-in-Some-other.result.now
    c.in-Switch.is (c.in-Some-other.is ∙ ap Some (sym c.deref-in-Some-other.ensures)) in
    (omega (arith, less), subst (λ (x : Steps). Runs x (state_of c.args.buf.now)) e r)

pub run_op-returns-in-Some-other-clause-ok : goal.run_op-returns-in-Some-other-clause-ok
run_op-returns-in-Some-other-clause-ok t c =
    let k = calls_of c.args.machine.now.subs.now c.args.machine.now.head.now c.args.calls in
    let e = default_steps k c.args.machine.now.head.now (seen c.args.value.now) c.in-Switch.path c.in-Switch.cases c.in-Switch.other
    c.in-Some-arm_at.n.now (seen c.in-Some-arm_at.inner.now) c.deref-in-Some-other.result.now (sym c.in-Some-arm_at.ensures)
    c.in-None.ensures (c.in-Some-other.is ∙ ap Some (sym c.deref-in-Some-other.ensures)) in
    ok_map c.run_block-in-Some-other.result _ _
    (switch_ends k c.args.machine.now.head.now (seen c.args.value.now) c.args.op.now c.in-Switch.path c.in-Switch.cases c.in-Switch.other
    (state_of c.args.buf.now) (state_of c.run_block-in-Some-other.new.buf) c.in-Switch.is)
    (subst
    (λ (x : Steps). OnOk c.run_block-in-Some-other.result (Ends x (state_of c.args.buf.now) (state_of c.run_block-in-Some-other.new.buf)))
    (sym e) c.run_block-in-Some-other.ensures.ok)

pub run_op-unreachable-requires-in-None-other : goal.run_op-unreachable-requires-in-None-other
run_op-unreachable-requires-in-None-other t c =
    let k = calls_of c.args.machine.now.subs.now c.args.machine.now.head.now c.args.calls in
    let r = switch_runs k c.args.machine.now.head.now (seen c.args.value.now) c.args.op.now c.in-Switch.path c.in-Switch.cases
    c.in-Switch.other _ c.in-Switch.is c.requires in
    let e = nothing_steps k c.args.machine.now.head.now (seen c.args.value.now) c.in-Switch.path c.in-Switch.cases c.in-Switch.other
    c.in-Some-arm_at.n.now (seen c.in-Some-arm_at.inner.now) (sym c.in-Some-arm_at.ensures) c.in-None.ensures c.in-None-other.is in
    subst (λ (x : Steps). Runs x (state_of c.args.buf.now)) e r

pub run_block-loop-op-preserved : goal.run_block-loop-op-preserved
run_block-loop-op-preserved t c = record {
  left = block_step _ _ _ _ _ c.op-item.result _ _ _ c.loop-op.invariant.left c.loop-op-test.true c.op-item.is c.in_ok-run_op.ensures.ok;
  short = λ h.
      let short : length c.octets.result.now ≤ longest_message = omega (arith, c.if-octets-gt-LONGEST_MESSAGE.false) in
      rw c.octets.ensures at short;
}

pub run_block-returns-then-octets-gt-LONGEST_MESSAGE-clause-err : goal.run_block-returns-then-octets-gt-LONGEST_MESSAGE-clause-err
run_block-returns-then-octets-gt-LONGEST_MESSAGE-clause-err t c =
    rw (← c.as_slice-op-items.ensures)
    (block_broken _ _ _ _ _ c.op-item.result _ _ _ c.loop-op.invariant.left c.loop-op-test.true c.op-item.is c.in_ok-run_op.ensures.ok)

pub run_block-returns-in_err-run_op-clause-err : goal.run_block-returns-in_err-run_op-clause-err
run_block-returns-in_err-run_op-clause-err t c =
    rw (← c.as_slice-op-items.ensures) (on_err c.from_residual.result _
    (block_grown _ _ _ _ _ c.op-item.result _ _ _ c.loop-op.invariant.left c.loop-op-test.true c.op-item.is c.in_err-run_op.ensures.err))

pub run_items-returns-in_err-run_block-clause-err : goal.run_items-returns-in_err-run_block-clause-err
run_items-returns-in_err-run_block-clause-err t c =
    rw (← c.as_slice-value-items.ensures) (on_err c.from_residual.result _ (items_grown _ _ _ c.value-item.result _ _ _
    c.loop-value.invariant c.loop-value-test.true c.value-item.is c.in_err-run_block.ensures.err))

pub run_numbers-returns-in_err-run_block-clause-err : goal.run_numbers-returns-in_err-run_block-clause-err
run_numbers-returns-in_err-run_block-clause-err t c =
    let lt : c.loop-i.i < length c.args.row.now.numbers = omega arith in
    on_err c.from_residual.result _ (numbers_grown _ _ _ _ _ _ c.loop-i.invariant lt
    (subst (λ (v : Val). Grown (code_steps (calls_of c.args.machine.now.subs.now c.args.machine.now.head.now c.args.calls)
    c.args.machine.now.head.now c.args.body.now v) (state_of c.loop-i.buf) (state_of c.run_block.new.buf)) c.number_at-number.ensures
    c.in_err-run_block.ensures.err))

pub run_op-returns-in-Each-clause-err : goal.run_op-returns-in-Each-clause-err
run_op-returns-in-Each-clause-err t c = err_map c.run_each.result _ _
    (each_grown (calls_of c.args.machine.now.subs.now c.args.machine.now.head.now c.args.calls) c.args.machine.now.head.now
    (seen c.args.value.now) c.args.op.now _ _ _ _ c.in-Each.is) c.run_each.ensures.err

pub run_op-returns-in-Some-position-clause-err : goal.run_op-returns-in-Some-position-clause-err
run_op-returns-in-Some-position-clause-err t c =
    let k = calls_of c.args.machine.now.subs.now c.args.machine.now.head.now c.args.calls in
    let e = picked_body k c.args.machine.now.head.now (seen c.args.value.now) c.in-Switch.path c.in-Switch.cases c.as_slice.result.now
    c.in-Switch.other c.in-Some-arm_at.n.now (seen c.in-Some-arm_at.inner.now) c.in-Some-position.i c.index-as_slice-i.result
    c.in-Some-arm_at.ensures c.in-Some-position.ensures (c.as_slice.ensures ∙ c.deref.ensures) in
    err_map c.run_block.result _ _ (switch_grown k c.args.machine.now.head.now (seen c.args.value.now) c.args.op.now c.in-Switch.path
    c.in-Switch.cases c.in-Switch.other (state_of c.args.buf.now) (state_of c.run_block.new.buf) c.in-Switch.is)
    (subst (λ (x : Steps). OnErr c.run_block.result (Grown x (state_of c.args.buf.now) (state_of c.run_block.new.buf))) (sym e)
    c.run_block.ensures.err)

pub run_op-returns-in-Some-other-clause-err : goal.run_op-returns-in-Some-other-clause-err
run_op-returns-in-Some-other-clause-err t c =
    let k = calls_of c.args.machine.now.subs.now c.args.machine.now.head.now c.args.calls in
    let e = default_steps k c.args.machine.now.head.now (seen c.args.value.now) c.in-Switch.path c.in-Switch.cases c.in-Switch.other
    c.in-Some-arm_at.n.now (seen c.in-Some-arm_at.inner.now) c.deref-in-Some-other.result.now (sym c.in-Some-arm_at.ensures)
    c.in-None.ensures (c.in-Some-other.is ∙ ap Some (sym c.deref-in-Some-other.ensures)) in
    err_map c.run_block-in-Some-other.result _ _
    (switch_grown k c.args.machine.now.head.now (seen c.args.value.now) c.args.op.now c.in-Switch.path c.in-Switch.cases c.in-Switch.other
    (state_of c.args.buf.now) (state_of c.run_block-in-Some-other.new.buf) c.in-Switch.is)
    (subst
    (λ (x : Steps). OnErr c.run_block-in-Some-other.result (Grown x (state_of c.args.buf.now) (state_of c.run_block-in-Some-other.new.buf)))
    (sym e) c.run_block-in-Some-other.ensures.err)

pub run_called-run_block-requires : goal.run_called-run_block-requires
run_called-run_block-requires t c =
    let subs = c.args.machine.now.subs.now in
    let head = c.args.machine.now.head.now in
    let deeper : c.args.calls ≡ suc (c.args.calls - 1) = omega arith in
    let less = called-is-less subs c.args.calls (c.args.calls - 1) c.args.k c.in-Some-get.code.now deeper (sym c.in-Some-get.ensures) in
    let same = call_is subs head c.args.calls (c.args.calls - 1) c.args.k c.args.path.now c.in-Some-get.code.now (seen c.args.value.now)
    (seen c.in-Some.here.now) deeper (sym c.in-Some.ensures) (sym c.in-Some-get.ensures) in
    (omega (arith, less), subst (λ (x : Steps). Runs x (state_of c.args.buf.now)) same c.requires)

pub run_op-run_each-requires : goal.run_op-run_each-requires
run_op-run_each-requires t c = (omega (arith, each-in-op _ _ _ c.in-Each.is), each_runs _ _ _ _ _ _ _ c.in-Each.is c.requires)
