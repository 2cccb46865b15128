use Rattle.std.proofs.Common.{rules, ◌≡◌, ◌<◌, ℕ, ℤ, List, length, refl, ap, sym, ◌∙◌, arith, subst}
use Rattle.std.specs.Prelude.{OnOk}
use Rattle.std.proofs.Math.ListN.{take}
use Rattle.mint.specs.Types.{type_at, unfolded, level, ArmsBelow}
use Rattle.mint.specs.Types.{arms_at as mint_arms}
use Rattle.cast_stub.specs.declared.recv.RecvOp.{RecvOp}
use Rattle.cast_stub.specs.declared.recv.RecvOp.TheVariants as variants
use Rattle.cast_stub.specs.RecvAppend.{append}
use Rattle.cast_stub.specs.RecvBlock.{Recv, finish, op_seen, code_seen, cases_seen}
use Rattle.cast_stub.specs.PartTypes.{ty_at, arms_at}
use Rattle.cast_stub.proofs.Directions.{receives}
use Rattle.cast_stub.proofs.InStep.{as-many, this-has, more-have, all-have}
use Rattle.cast_stub.proofs.Trees.{op_has, one_more, switch_has, switch_is}
use Rattle.hoist.proofs.InStep.{arm-below}
use Rattle.copy_inline.specs.RecvReady.{IsReady, CasesReady}
use Rattle.copy_inline.specs.RecvRowBodies.{RowedFor, AreRowed, ReadyFor, ArmsReady}
use Rattle.copy_inline.specs.Rowed.{by_type}
use Rattle.copy_inline.specs.RecvRowed.{rowed, cases_rowed}
use Rattle.copy_inline.proofs.RecvRowEmitting.{rowed-append}
use Rattle.copy_inline.proofs.RowEmitting.{typed, by_typed, arms_there}
use Rattle.copy_inline.proofs.RecvRowsInStep.{arms-ready, cases-rowed, both-ready}
use Rattle.copy_inline.proofs.recv_rows.+rows.Goals as goal

pub rows_ops-put_op-requires : goal.rows_ops-put_op-requires
rows_ops-put_op-requires t c =
    let ty = type_at c.args.mint.now c.args.id in (
      omega arith,
      (
        c.requires.id,
        subst (λ (o : RecvOp). IsReady c.args.enc ty (op_seen o finish)) (sym c.op-item.is)
            (op_has receives (IsReady c.args.enc ty) (both-ready c.args.enc ty) c.as_slice-op-items.result.now c.loop-op.op-index
            c.op-item.result c.loop-op-test.true
            (subst (λ (l : List RecvOp). IsReady c.args.enc ty (code_seen l)) (sym c.as_slice-op-items.ensures) c.requires.ready)),
      ),
    )

pub rows_ops-loop-op-preserved : goal.rows_ops-loop-op-preserved
rows_ops-loop-op-preserved t c =
    let ty = type_at c.args.mint.now c.args.id in
    one_more receives (rowed c.args.enc ty) (rowed-append c.args.enc ty) _ _ c.op-item.result finish _ _ c.loop-op-test.true
    c.op-item.is c.loop-op.invariant
    c.in_ok-put_op.ensures

pub put_op-switch_bodies-requires : goal.put_op-switch_bodies-requires
put_op-switch_bodies-requires t c = (
  omega arith,
  (
    c.requires.id,
    (switch_has receives (IsReady c.args.enc (type_at c.args.mint.now c.args.id)) c.args.op.now c.requires.ready c.in-Switch.path
        c.deref.result.now c.in-Switch.last (c.in-Switch.is
        ∙ ap (λ (l : List (ℤ × List RecvOp)). variants.Switch c.in-Switch.path l c.in-Switch.last) (sym c.deref.ensures))).0,
  ),
)

pub put_op-returns-in_ok-switch-in-Switch : goal.put_op-returns-in_ok-switch-in-Switch
put_op-returns-in_ok-switch-in-Switch t c =
    let ty = type_at c.args.mint.now c.args.id in
    subst (λ (b : Recv). OnOk c.add-in-Switch.result (code_seen c.add-in-Switch.new.out ≡ append (code_seen c.args.out.now) b))
    (ap (λ (o : RecvOp). op_seen o finish) c.in_ok-switch-in-Switch.ensures
    ∙ switch_is receives (rowed c.args.enc ty) c.args.op.now c.in-Switch.path _ c.in-Switch.path c.deref.result.now _ c.in-Switch.last _
    (by_type (arms_at c.in-Switch.path ty) (cases_seen c.deref.result.now c.in-Switch.last)
    (λ arms. cases_rowed c.args.enc arms (cases_seen c.deref.result.now c.in-Switch.last)))
    (c.in-Switch.is
    ∙ ap (λ (l : List (ℤ × List RecvOp)). variants.Switch c.in-Switch.path l c.in-Switch.last) (sym c.deref.ensures))
    refl c.in_ok-same-in-Switch.ensures c.in_ok-bodies-in-Switch.ensures)
    c.add-in-Switch.ensures

pub rows_cases-bounds-arms-i : goal.rows_cases-bounds-arms-i
rows_cases-bounds-arms-i t c =
    let many = as-many (ReadyFor c.args.enc (unfolded c.args.mint.now)) c.args.arms.now c.args.cases.now c.requires.ready in
    omega (arith, c.loop-i-test.true, many, ap length c.as_slice-arms.ensures, ap length c.as_slice-cases.ensures)

pub rows_cases-rows_case-requires : goal.rows_cases-rows_case-requires
rows_cases-rows_case-requires t c =
    let us = unfolded c.args.mint.now in
    let ready = subst (λ (l : List (ℤ × ℕ)). ArmsReady c.args.enc us l c.as_slice-cases.result.now) (sym c.as_slice-arms.ensures)
    (subst (λ (l : List (ℤ × List RecvOp)). ArmsReady c.args.enc us c.args.arms.now l) (sym c.as_slice-cases.ensures)
    c.requires.ready) in
    let within : c.loop-i.i < length c.as_slice-arms.result.now =
    omega (arith, c.loop-i-test.true, as-many (ReadyFor c.args.enc us) c.as_slice-arms.result.now c.as_slice-cases.result.now ready) in
    let below = subst (ArmsBelow c.args.id) (sym c.as_slice-arms.ensures) c.requires.arms in (
      omega arith,
      (
        c.requires.id,
        (
          arm-below c.args.id c.as_slice-arms.result.now c.loop-i.i _ within below,
          this-has (ReadyFor c.args.enc us) c.as_slice-arms.result.now c.as_slice-cases.result.now c.loop-i.i _ c.index-cases-i.result
              c.loop-i-test.true c.index-cases-i.is ready,
        ),
      ),
    )

pub rows_cases-loop-i-preserved : goal.rows_cases-loop-i-preserved
rows_cases-loop-i-preserved t c =
    let us = unfolded c.args.mint.now in
    let ready = subst (λ (l : List (ℤ × ℕ)). ArmsReady c.args.enc us l c.as_slice-cases.result.now) (sym c.as_slice-arms.ensures)
    (subst (λ (l : List (ℤ × List RecvOp)). ArmsReady c.args.enc us c.args.arms.now l) (sym c.as_slice-cases.ensures)
    c.requires.ready) in
    more-have (RowedFor c.args.enc us) c.as_slice-arms.result.now c.as_slice-cases.result.now c.loop-i.bodies c.push.new.self c.loop-i.i _
    c.index-cases-i.result c.in_ok-rows_case.field-0
    (as-many (ReadyFor c.args.enc us) c.as_slice-arms.result.now c.as_slice-cases.result.now ready) c.loop-i-test.true
    c.index-cases-i.is c.loop-i.invariant
    c.in_ok-rows_case.ensures c.in_ok-push.ensures.ok

pub rows_cases-returns : goal.rows_cases-returns
rows_cases-returns t c =
    let us = unfolded c.args.mint.now in
    let so_far = subst (λ (l : List (ℤ × ℕ)). AreRowed c.args.enc us (take c.loop-i.i l) (take c.loop-i.i c.args.cases.now) c.loop-i.bodies)
    c.as_slice-arms.ensures
    (subst
    (λ (l : List (ℤ × List RecvOp)). AreRowed c.args.enc us (take c.loop-i.i c.as_slice-arms.result.now) (take c.loop-i.i l)
    c.loop-i.bodies) c.as_slice-cases.ensures c.loop-i.invariant) in
    all-have (RowedFor c.args.enc us) c.args.arms.now c.args.cases.now c.loop-i.bodies c.loop-i.i
    (as-many (ReadyFor c.args.enc us) c.args.arms.now c.args.cases.now c.requires.ready)
    (omega (arith, c.loop-i-test.false, ap length c.as_slice-cases.ensures)) so_far

pub switch_bodies-rows_cases-requires : goal.switch_bodies-rows_cases-requires
switch_bodies-rows_cases-requires t c =
    let us = unfolded c.args.mint.now in
    let ty = type_at c.args.mint.now c.args.id in
    let there = arms_there c.args.path.now ty (type_at c.args.mint.now c.in-Some.part) _
    (mint_arms us c.in-Some-Choice.arms c.in-Some-Choice.other)
    (c.in-Some.ensures.is ∙ ap (λ (p : List ℕ). ty_at p ty) c.as_slice.ensures)
    (c.in-Some-Choice.ensures.is ∙ ap (level us) c.in-Some-Choice.field-0-is) in
    let ready = typed (arms_at c.args.path.now ty) (λ arms. CasesReady c.args.enc arms (cases_seen c.args.cases.now c.args.last.now))
    (mint_arms us c.in-Some-Choice.arms c.in-Some-Choice.other) there c.requires.ready in (
      omega (arith, c.in-Some.ensures.below),
      (
        omega (arith, c.requires.id, c.in-Some.ensures.below),
        (search rules, (arms-ready c.args.enc us c.in-Some-Choice.arms c.in-Some-Choice.other c.args.cases.now c.args.last.now ready).0),
      ),
    )

pub switch_bodies-rows_last-requires : goal.switch_bodies-rows_last-requires
switch_bodies-rows_last-requires t c =
    let us = unfolded c.args.mint.now in
    let ty = type_at c.args.mint.now c.args.id in
    let there = arms_there c.args.path.now ty (type_at c.args.mint.now c.in-Some.part) _
    (mint_arms us c.in-Some-Choice.arms c.in-Some-Choice.other)
    (c.in-Some.ensures.is ∙ ap (λ (p : List ℕ). ty_at p ty) c.as_slice.ensures)
    (c.in-Some-Choice.ensures.is ∙ ap (level us) c.in-Some-Choice.field-0-is) in
    let ready = typed (arms_at c.args.path.now ty) (λ arms. CasesReady c.args.enc arms (cases_seen c.args.cases.now c.args.last.now))
    (mint_arms us c.in-Some-Choice.arms c.in-Some-Choice.other) there c.requires.ready in (
      omega (arith, c.in-Some.ensures.below),
      (
        omega (arith, c.requires.id, c.in-Some.ensures.below),
        (search rules, (arms-ready c.args.enc us c.in-Some-Choice.arms c.in-Some-Choice.other c.args.cases.now c.args.last.now ready).1),
      ),
    )

pub switch_bodies-returns : goal.switch_bodies-returns
switch_bodies-returns t c =
    let us = unfolded c.args.mint.now in
    let ty = type_at c.args.mint.now c.args.id in
    let there = arms_there c.args.path.now ty (type_at c.args.mint.now c.in-Some.part) _
    (mint_arms us c.in-Some-Choice.arms c.in-Some-Choice.other)
    (c.in-Some.ensures.is ∙ ap (λ (p : List ℕ). ty_at p ty) c.as_slice.ensures)
    (c.in-Some-Choice.ensures.is ∙ ap (level us) c.in-Some-Choice.field-0-is) in
    cases-rowed c.args.enc us c.in-Some-Choice.arms c.in-Some-Choice.other c.args.cases.now c.in_ok-bodies.bodies c.args.last.now
    c.in_ok-rest.rest c.in_ok-bodies.ensures c.in_ok-rest.ensures
    ∙ by_typed (arms_at c.args.path.now ty) (cases_seen c.args.cases.now c.args.last.now)
    (λ arms. cases_rowed c.args.enc arms (cases_seen c.args.cases.now c.args.last.now))
    (mint_arms us c.in-Some-Choice.arms c.in-Some-Choice.other) there
