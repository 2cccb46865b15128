use Rattle.std.proofs.Common.{rules, ◌≡◌, ℕ, ℤ, List, length, refl, ap, sym, ◌∙◌, arith, subst}
use Rattle.std.specs.Prelude.{OnOk}
use Rattle.std.specs.Vec.Iter.{into_iter_items}
use Rattle.std.proofs.lemmas.List.{nil_from_length}
use Rattle.std.proofs.Math.ListN.{drop, take}
use Rattle.mint.specs.Types.{type_at, unfolded, level, ArmsBelow}
use Rattle.mint.specs.Types.{arms_at as mint_arms}
use Rattle.cast_stub.specs.declared.send.SendOp.{SendOp}
use Rattle.cast_stub.specs.declared.send.SendOp.TheVariants as variants
use Rattle.cast_stub.specs.Append.{append}
use Rattle.cast_stub.specs.Block.{Block, stop, op_seen, code_seen, cases_seen}
use Rattle.cast_stub.specs.PartTypes.{ty_at, arms_at}
use Rattle.cast_stub.proofs.Directions.{sends}
use Rattle.cast_stub.proofs.InStep.{as-many}
use Rattle.cast_stub.proofs.Trees.{switch_has, switch_is}
use Rattle.hoist.proofs.InStep.{arm-below}
use Rattle.copy_inline.specs.Ready.{IsReady, CasesReady}
use Rattle.copy_inline.specs.RowBodies.{RowedFor, AreRowed, ReadyFor, ArmsReady}
use Rattle.copy_inline.specs.Rowed.{by_type, rowed, cases_rowed}
use Rattle.copy_inline.proofs.RowEmitting.{typed, by_typed, arms_there}
use Rattle.copy_inline.proofs.RowsInStep.{arms-ready, cases-rowed}
use Rattle.copy_inline.proofs.RowsTaken.{both-left, one-made, all-made, first-has, one-more, no-more}
use Rattle.copy_inline.proofs.sent_rows.+rows.Goals as goal

pub rows_ops-loop-op-init : goal.rows_ops-loop-op-init
rows_ops-loop-op-init t c =
    let ty = type_at c.args.mint.now c.args.id in
    let all : into_iter_items c.into_iter-op-iterator.result ≡ c.args.ops =
    c.into_iter-op-iterator.ensures.into_iter_gives.0 ∙ c.into_items-op-items.ensures in
    record {
      next = tt;
      finite = tt;
      long =
          omega (
            arith,
            c.into_iter-op-iterator.ensures.into_iter_gives.1,
            ap length c.into_iter-op-iterator.ensures.into_iter_gives.0,
            c.into_items-op-items.result.ok.0,
          );
      ready = subst (λ (l : List SendOp). IsReady c.args.enc ty (code_seen l)) (sym all) c.requires.ready;
      made = ap (λ (l : List SendOp). append (code_seen c.in_ok-out.out) (rowed c.args.enc ty (code_seen l))) all
          ∙ ap (λ (l : List SendOp). append (code_seen l) (rowed c.args.enc ty (code_seen c.args.ops))) c.in_ok-out.ensures;
    }

pub rows_ops-put_op-requires : goal.rows_ops-put_op-requires
rows_ops-put_op-requires t c = (
  omega arith,
  (
    c.requires.id,
    (both-left c.args.enc (type_at c.args.mint.now c.args.id) c.in-Some.op _ _ c.in-Some.ensures.steps.0 c.loop-op.invariant.ready).0,
  ),
)

pub rows_ops-loop-op-preserved : goal.rows_ops-loop-op-preserved
rows_ops-loop-op-preserved t c =
    let ty = type_at c.args.mint.now c.args.id in
    record {
      next = tt;
      finite = tt;
      long = omega (arith, c.loop-op.invariant.long, c.in-Some.ensures.steps.1, ap length c.in-Some.ensures.steps.0);
      ready = (both-left c.args.enc ty c.in-Some.op _ _ c.in-Some.ensures.steps.0 c.loop-op.invariant.ready).1;
      made = one-made c.args.enc ty c.in-Some.op _ _ (code_seen c.loop-op.out) (code_seen c.put_op.new.out) _ c.in-Some.ensures.steps.0
          c.loop-op.invariant.made c.in_ok-put_op.ensures;
    }

pub rows_ops-returns : goal.rows_ops-returns
rows_ops-returns t c =
    all-made c.args.enc (type_at c.args.mint.now c.args.id) (into_iter_items c.loop-op.op-iterator) (code_seen c.loop-op.out) _
    (nil_from_length _ (omega (arith, c.loop-op.invariant.long, c.in-None.ensures.steps.0))) c.loop-op.invariant.made

pub put_op-switch_bodies-requires : goal.put_op-switch_bodies-requires
put_op-switch_bodies-requires t c = (
  omega arith,
  (
    c.requires.id,
    (switch_has sends (IsReady c.args.enc (type_at c.args.mint.now c.args.id)) c.args.op c.requires.ready c.in-Switch.path
        c.into_value-cases.result c.in-Switch.last (c.in-Switch.is
        ∙ ap (λ (l : List (ℤ × List SendOp)). variants.Switch c.in-Switch.path l c.in-Switch.last) (sym c.into_value-cases.ensures))).0,
  ),
)

pub put_op-returns-in_ok-switch-in-Switch : goal.put_op-returns-in_ok-switch-in-Switch
put_op-returns-in_ok-switch-in-Switch t c =
    let ty = type_at c.args.mint.now c.args.id in
    subst (λ (b : Block). OnOk c.add-in-Switch.result (code_seen c.add-in-Switch.new.out ≡ append (code_seen c.args.out.now) b))
    (ap (λ (o : SendOp). op_seen o stop) c.in_ok-switch-in-Switch.ensures
    ∙ switch_is sends (rowed c.args.enc ty) c.args.op c.in-Switch.path c.in-Switch.path c.in-Switch.path c.into_value-cases.result _
    c.in-Switch.last _
    (by_type (arms_at c.in-Switch.path ty) (cases_seen c.into_value-cases.result c.in-Switch.last)
    (λ arms. cases_rowed c.args.enc arms (cases_seen c.into_value-cases.result c.in-Switch.last)))
    (c.in-Switch.is
    ∙ ap (λ (l : List (ℤ × List SendOp)). variants.Switch c.in-Switch.path l c.in-Switch.last) (sym c.into_value-cases.ensures))
    refl refl c.in_ok-bodies-in-Switch.ensures)
    c.add-in-Switch.ensures

pub rows_cases-loop-case-init : goal.rows_cases-loop-case-init
rows_cases-loop-case-init t c =
    let all : into_iter_items c.into_iter-case-iterator.result ≡ c.args.cases =
    c.into_iter-case-iterator.ensures.into_iter_gives.0 ∙ c.into_entries-case-items.ensures in
    let none : drop (length c.new-bodies.result) c.args.cases ≡ c.args.cases =
    ap (λ (l : List (ℤ × List SendOp)). drop (length l) c.args.cases) c.new-bodies.ensures in
    record {
      next = tt;
      finite = tt;
      long =
          omega (
            arith,
            c.into_iter-case-iterator.ensures.into_iter_gives.1,
            ap length c.into_iter-case-iterator.ensures.into_iter_gives.0,
            c.into_entries-case-items.result.ok.0,
          );
      left = all ∙ sym none;
      made = search rules;
    }

pub rows_cases-bounds-arms-len : goal.rows_cases-bounds-arms-len
rows_cases-bounds-arms-len t c =
    let first = first-has (ReadyFor c.args.enc (unfolded c.args.mint.now)) c.args.arms.now c.args.cases _ _ _ c.len.result
    (c.in-Some.case.0, 0) _ c.len.ensures c.loop-case.invariant.left c.in-Some.ensures.steps.0 c.requires.ready in
    omega (arith, first.0, ap length c.as_slice-arms.ensures)

pub rows_cases-rows_case-requires : goal.rows_cases-rows_case-requires
rows_cases-rows_case-requires t c =
    let us = unfolded c.args.mint.now in
    let ready = subst (λ (l : List (ℤ × ℕ)). ArmsReady c.args.enc us l c.args.cases) (sym c.as_slice-arms.ensures) c.requires.ready in
    let below = subst (ArmsBelow c.args.id) (sym c.as_slice-arms.ensures) c.requires.arms in
    let first = first-has (ReadyFor c.args.enc us) c.as_slice-arms.result.now c.args.cases _ _ _ c.len.result _ c.in-Some.case
    c.len.ensures c.loop-case.invariant.left c.in-Some.ensures.steps.0 ready in
    (omega arith, (c.requires.id, (arm-below c.args.id c.as_slice-arms.result.now c.len.result _ first.0 below, first.1)))

pub rows_cases-loop-case-preserved : goal.rows_cases-loop-case-preserved
rows_cases-loop-case-preserved t c =
    let us = unfolded c.args.mint.now in
    let ready = subst (λ (l : List (ℤ × ℕ)). ArmsReady c.args.enc us l c.args.cases) (sym c.as_slice-arms.ensures) c.requires.ready in
    let more = one-more (RowedFor c.args.enc us) c.as_slice-arms.result.now c.args.cases _ _ c.loop-case.bodies c.push.new.self
    c.len.result _ c.in-Some.case c.in_ok-rows_case.field-0
    (as-many (ReadyFor c.args.enc us) c.as_slice-arms.result.now c.args.cases ready) c.len.ensures c.loop-case.invariant.left
    c.in-Some.ensures.steps.0 c.loop-case.invariant.made c.in_ok-rows_case.ensures c.in_ok-push.ensures.ok in
    record {
      next = tt;
      finite = tt;
      long = omega (arith, c.loop-case.invariant.long, c.in-Some.ensures.steps.1, ap length c.in-Some.ensures.steps.0);
      left = more.0;
      made = more.1;
    }

pub rows_cases-returns : goal.rows_cases-returns
rows_cases-returns t c =
    let us = unfolded c.args.mint.now in
    let bodies = c.loop-case.bodies in
    no-more (RowedFor c.args.enc us) c.args.arms.now c.args.cases _ bodies
    (as-many (ReadyFor c.args.enc us) c.args.arms.now c.args.cases c.requires.ready) c.loop-case.invariant.left
    (omega (arith, c.loop-case.invariant.long, c.in-None.ensures.steps.0))
    (subst (λ (l : List (ℤ × ℕ)). AreRowed c.args.enc us (take (length bodies) l) (take (length bodies) c.args.cases) bodies)
    c.as_slice-arms.ensures c.loop-case.invariant.made)

pub switch_bodies-rows_cases-requires : goal.switch_bodies-rows_cases-requires
switch_bodies-rows_cases-requires t c =
    let us = unfolded c.args.mint.now in
    let ty = type_at c.args.mint.now c.args.id in
    let there = arms_there c.args.path.now ty (type_at c.args.mint.now c.in-Some.part) _
    (mint_arms us c.in-Some-Choice.arms c.in-Some-Choice.other)
    (c.in-Some.ensures.is ∙ ap (λ (p : List ℕ). ty_at p ty) c.as_slice.ensures)
    (c.in-Some-Choice.ensures.is ∙ ap (level us) c.in-Some-Choice.field-0-is) in
    let ready = typed (arms_at c.args.path.now ty) (λ arms. CasesReady c.args.enc arms (cases_seen c.args.cases c.args.last))
    (mint_arms us c.in-Some-Choice.arms c.in-Some-Choice.other) there c.requires.ready in (
      omega (arith, c.in-Some.ensures.below),
      (
        omega (arith, c.requires.id, c.in-Some.ensures.below),
        (search rules, (arms-ready c.args.enc us c.in-Some-Choice.arms c.in-Some-Choice.other c.args.cases c.args.last ready).0),
      ),
    )

pub switch_bodies-rows_last-requires : goal.switch_bodies-rows_last-requires
switch_bodies-rows_last-requires t c =
    let us = unfolded c.args.mint.now in
    let ty = type_at c.args.mint.now c.args.id in
    let there = arms_there c.args.path.now ty (type_at c.args.mint.now c.in-Some.part) _
    (mint_arms us c.in-Some-Choice.arms c.in-Some-Choice.other)
    (c.in-Some.ensures.is ∙ ap (λ (p : List ℕ). ty_at p ty) c.as_slice.ensures)
    (c.in-Some-Choice.ensures.is ∙ ap (level us) c.in-Some-Choice.field-0-is) in
    let ready = typed (arms_at c.args.path.now ty) (λ arms. CasesReady c.args.enc arms (cases_seen c.args.cases c.args.last))
    (mint_arms us c.in-Some-Choice.arms c.in-Some-Choice.other) there c.requires.ready in (
      omega (arith, c.in-Some.ensures.below),
      (
        omega (arith, c.requires.id, c.in-Some.ensures.below),
        (search rules, (arms-ready c.args.enc us c.in-Some-Choice.arms c.in-Some-Choice.other c.args.cases c.args.last ready).1),
      ),
    )

pub switch_bodies-returns : goal.switch_bodies-returns
switch_bodies-returns t c =
    let us = unfolded c.args.mint.now in
    let ty = type_at c.args.mint.now c.args.id in
    let there = arms_there c.args.path.now ty (type_at c.args.mint.now c.in-Some.part) _
    (mint_arms us c.in-Some-Choice.arms c.in-Some-Choice.other)
    (c.in-Some.ensures.is ∙ ap (λ (p : List ℕ). ty_at p ty) c.as_slice.ensures)
    (c.in-Some-Choice.ensures.is ∙ ap (level us) c.in-Some-Choice.field-0-is) in
    cases-rowed c.args.enc us c.in-Some-Choice.arms c.in-Some-Choice.other c.args.cases c.in_ok-bodies.bodies c.args.last
    c.in_ok-rest.rest c.in_ok-bodies.ensures c.in_ok-rest.ensures
    ∙ by_typed (arms_at c.args.path.now ty) (cases_seen c.args.cases c.args.last)
    (λ arms. cases_rowed c.args.enc arms (cases_seen c.args.cases c.args.last))
    (mint_arms us c.in-Some-Choice.arms c.in-Some-Choice.other) there
