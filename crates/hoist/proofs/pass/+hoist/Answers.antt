use Rattle.std.proofs.Common.{rules, ◌≡◌, ◌<◌, ℕ, ℤ, List, length, ap, sym, ◌∙◌, arith, subst}
use Rattle.std.specs.Vec.Iter.{into_iter_items}
use Rattle.std.proofs.Math.ListN.{take}
use Rattle.std.proofs.lemmas.List.{nil_from_length}
use Rattle.std.proofs.lemmas.Result.{IfOk-weaker}
use Rattle.mint.specs.Types.{type_at, unfolded, level, ArmsBelow}
use Rattle.mint.specs.Types.{arms_at as mint_arms}
use Rattle.cast_stub.specs.declared.send.SendOp.{SendOp}
use Rattle.cast_stub.specs.Block.{Block, code_seen, cases_seen}
use Rattle.cast_stub.specs.PartTypes.{ty_at, present_at}
use Rattle.hoist.specs.Hoisted.{closed, hoisted, kept, switch_plan, items_at, or_void}
use Rattle.hoist.specs.Seen.{after, span_roles, plan_seen, HoistedFor, AreHoisted, TakenFor, ArmsTaken}
use Rattle.hoist.proofs.Passing.{front-align, front-chunk, front-patch, front-each, front-some, front-switch, switch-taken, switch-apart, switch-kept, each-kept, some-kept}
use Rattle.cast_stub.proofs.InStep.{as-many, this-has, all-have}
use Rattle.hoist.proofs.InStep.{arm-below, next-left, none-left, longer-have, arms-taken, cases-hoisted}
use Rattle.hoist.proofs.Visited.{last-taken}
use Rattle.hoist.proofs.pass.+hoist.Goals as goal

pub hoist_cases-loop-case-init : goal.hoist_cases-loop-case-init
hoist_cases-loop-case-init t c =
    let all : into_iter_items c.into_iter-case-iterator.result ≡ c.args.cases =
    c.into_iter-case-iterator.ensures.into_iter_gives.0 ∙ c.into_entries-case-items.ensures in
    record {
      next = tt;
      finite = tt;
      long =
          omega (
            arith,
            c.into_iter-case-iterator.ensures.into_iter_gives.1,
            ap length c.into_iter-case-iterator.ensures.into_iter_gives.0,
            c.into_entries-case-items.result.ok.0,
          );
      left = search (rules, all);
      so_far = search rules;
    }

pub hoist_cases-bounds-arms-len : goal.hoist_cases-bounds-arms-len
hoist_cases-bounds-arms-len t c =
    let many = as-many (TakenFor c.args.classes.now.enc (unfolded c.args.mint.now)) c.args.arms.now c.args.cases c.requires.taken in
    let next = next-left c.args.cases _ c.len.result _ c.in-Some.case c.len.ensures
    (c.loop-case.invariant.left ∙ c.in-Some.ensures.steps.0) in
    omega (arith, next.0, many, ap length c.as_slice-arms.ensures)

pub hoist_cases-hoist_case-requires : goal.hoist_cases-hoist_case-requires
hoist_cases-hoist_case-requires t c =
    let us = unfolded c.args.mint.now in
    let taken = subst (λ (l : List (ℤ × ℕ)). ArmsTaken c.args.classes.now.enc us l c.args.cases) (sym c.as_slice-arms.ensures)
    c.requires.taken in
    let many = as-many (TakenFor c.args.classes.now.enc us) c.as_slice-arms.result.now c.args.cases taken in
    let next = next-left c.args.cases _ c.len.result _ c.in-Some.case c.len.ensures
    (c.loop-case.invariant.left ∙ c.in-Some.ensures.steps.0) in
    let within : c.len.result < length c.as_slice-arms.result.now = omega (arith, next.0, many) in
    let below = subst (ArmsBelow c.args.id) (sym c.as_slice-arms.ensures) c.requires.arms in (
      omega arith,
      (
        c.requires.id,
        (
          c.requires.classes,
          (
            arm-below c.args.id c.as_slice-arms.result.now c.len.result _ within below,
            this-has (TakenFor c.args.classes.now.enc us) c.as_slice-arms.result.now c.args.cases c.len.result _
                c.in-Some.case next.0 next.1 taken,
          ),
        ),
      ),
    )

pub hoist_cases-loop-case-preserved : goal.hoist_cases-loop-case-preserved
hoist_cases-loop-case-preserved t c =
    let us = unfolded c.args.mint.now in
    let many = as-many (TakenFor c.args.classes.now.enc us) c.args.arms.now c.args.cases c.requires.taken in
    let more = longer-have (HoistedFor c.args.classes.now.enc us) c.as_slice-arms.result.now c.args.cases _ c.loop-case.bodies
    c.push.new.self c.len.result _ c.in-Some.case c.in_ok-hoist_case.field-0
    (ap length c.as_slice-arms.ensures ∙ many) c.len.ensures (c.loop-case.invariant.left ∙ c.in-Some.ensures.steps.0)
    c.loop-case.invariant.so_far c.in_ok-hoist_case.ensures c.in_ok-push.ensures.ok in
    record {
      next = tt;
      finite = tt;
      long = omega (arith, c.loop-case.invariant.long, c.in-Some.ensures.steps.1, ap length c.in-Some.ensures.steps.0);
      left = more.0;
      so_far = more.1;
    }

pub hoist_cases-returns : goal.hoist_cases-returns
hoist_cases-returns t c =
    let us = unfolded c.args.mint.now in
    let many = length c.loop-case.bodies in
    all-have (HoistedFor c.args.classes.now.enc us) c.args.arms.now c.args.cases c.loop-case.bodies many
    (as-many (TakenFor c.args.classes.now.enc us) c.args.arms.now c.args.cases c.requires.taken)
    (none-left c.args.cases many (c.loop-case.invariant.left
    ∙ nil_from_length _ (omega (arith, c.loop-case.invariant.long, c.in-None.ensures.steps.0))))
    (subst (λ (l : List (ℤ × ℕ)). AreHoisted c.args.classes.now.enc us (take many l) (take many c.args.cases) c.loop-case.bodies)
    c.as_slice-arms.ensures c.loop-case.invariant.so_far)

pub hoist_op-switch_bodies-requires : goal.hoist_op-switch_bodies-requires
hoist_op-switch_bodies-requires t c =
    let ty = type_at c.args.mint.now c.args.id in (
      omega arith,
      (
        c.requires.id,
        (
          c.requires.classes,
          switch-taken c.args.classes.now.enc ty c.args.op c.in-Switch.path c.in-Switch.cases
              c.in-Switch.last c.in_ok-plan-in-Switch.plan c.in-Switch.is
              (c.in_ok-plan-in-Switch.ensures.ok
              ∙ ap (λ (l : List (ℤ × List SendOp)). switch_plan (span_roles c.args.classes.now.enc) ty c.in-Switch.path
              (cases_seen l c.in-Switch.last)) c.deref.ensures)
              c.requires.taken,
        ),
      ),
    )

pub hoist_op-returns-in_ok-push-in-Align : goal.hoist_op-returns-in_ok-push-in-Align
hoist_op-returns-in_ok-push-in-Align t c =
    IfOk-weaker c.raise.result _ _
    (λ then e. front-align c.args.classes.now.enc (type_at c.args.mint.now c.args.id) c.args.op c.in-Align.a c.saturating_sub.result
    c.args.back.now.items c.push.new.self.items c.args.ahead then c.in-Align.is c.saturating_sub.ensures c.in_ok-push-in-Align.ensures.items
    e)
    c.raise.ensures

pub hoist_op-returns-in_ok-push-in-Chunk : goal.hoist_op-returns-in_ok-push-in-Chunk
hoist_op-returns-in_ok-push-in-Chunk t c =
    IfOk-weaker c.raise-in-Chunk.result _ _
    (λ then e. front-chunk c.args.classes.now.enc (type_at c.args.mint.now c.args.id) c.args.op c.in-Chunk.size c.in-Chunk.puts
    c.args.back.now.items c.push-in-Chunk.new.self.items c.args.ahead then c.in-Chunk.is c.in_ok-push-in-Chunk.ensures.items e)
    c.raise-in-Chunk.ensures

pub hoist_op-returns-in_ok-push-in-Patch : goal.hoist_op-returns-in_ok-push-in-Patch
hoist_op-returns-in_ok-push-in-Patch t c =
    front-patch c.args.classes.now.enc (type_at c.args.mint.now c.args.id) c.args.op c.in-Patch.at c.in-Patch.sub c.in-Patch.order
    c.args.back.now.items c.push-in-Patch.new.self.items c.args.ahead c.in-Patch.is c.in_ok-push-in-Patch.ensures.items

pub hoist_op-returns-in_ok-push-in-Each : goal.hoist_op-returns-in_ok-push-in-Each
hoist_op-returns-in_ok-push-in-Each t c =
    front-each c.args.classes.now.enc (type_at c.args.mint.now c.args.id) c.args.op c.in-Each.path
    c.in-Each.body c.in_ok-inner-in-Each.inner c.in_ok-plan-in-Each.plan
    c.args.back.now.items c.settle.new.back.items c.push-in-Each.new.self.items c.args.ahead c.in_ok-then-in-Each.then
    c.in-Each.is c.in_ok-plan-in-Each.ensures.ok
    c.in_ok-inner-in-Each.ensures c.in_ok-then-in-Each.ensures c.in_ok-push-in-Each.ensures.items

pub hoist_op-returns-in_ok-push-in-Some : goal.hoist_op-returns-in_ok-push-in-Some
hoist_op-returns-in_ok-push-in-Some t c =
    front-some c.args.classes.now.enc (type_at c.args.mint.now c.args.id) c.args.op c.in-Some.path
    c.in-Some.body c.in_ok-inner-in-Some.inner c.in_ok-plan-in-Some.plan
    c.args.back.now.items c.settle-in-Some.new.back.items c.push-in-Some.new.self.items c.args.ahead c.in_ok-then-in-Some.then
    c.in-Some.is c.in_ok-plan-in-Some.ensures.ok
    c.in_ok-inner-in-Some.ensures c.in_ok-then-in-Some.ensures c.in_ok-push-in-Some.ensures.items

pub hoist_op-returns-in_ok-push-in-Switch : goal.hoist_op-returns-in_ok-push-in-Switch
hoist_op-returns-in_ok-push-in-Switch t c =
    let ty = type_at c.args.mint.now c.args.id in
    front-switch c.args.classes.now.enc ty c.args.op c.in-Switch.path
    c.in-Switch.cases c.in_ok-bodies-in-Switch.bodies
    c.in-Switch.last c.in_ok-bodies-in-Switch.other c.in_ok-plan-in-Switch.plan
    c.args.back.now.items c.settle-in-Switch.new.back.items c.push-in-Switch.new.self.items c.args.ahead c.in_ok-then-in-Switch.then
    c.in-Switch.is
    (c.in_ok-plan-in-Switch.ensures.ok
    ∙ ap (λ (l : List (ℤ × List SendOp)). switch_plan (span_roles c.args.classes.now.enc) ty c.in-Switch.path
    (cases_seen l c.in-Switch.last)) c.deref.ensures)
    c.in_ok-bodies-in-Switch.ensures
    c.in_ok-then-in-Switch.ensures c.in_ok-push-in-Switch.ensures.items

pub hoist_ops-hoist_op-requires : goal.hoist_ops-hoist_op-requires
hoist_ops-hoist_op-requires t c = (
  omega arith,
  (
    c.requires.id,
    (
      c.requires.classes,
      last-taken c.args.classes.now.enc (type_at c.args.mint.now c.args.id) c.args.ops c.loop-op.rest.items c.pop.new.self.items
          c.in-Some.op (after c.loop-op.back.items c.loop-op.ahead) c.loop-op.invariant
          c.in-Some.ensures.items c.requires.taken,
    ),
  ),
)

pub switch_bodies-hoist_cases-requires : goal.switch_bodies-hoist_cases-requires
switch_bodies-hoist_cases-requires t c =
    let us = unfolded c.args.mint.now in
    let taken = switch-apart c.args.classes.now.enc (type_at c.args.mint.now c.args.id) c.args.path.now c.args.plan
    (type_at c.args.mint.now c.in-Some.part) _ (mint_arms us c.in-Some-Choice.arms c.in-Some-Choice.other)
    (cases_seen c.args.cases c.args.last)
    c.in-Apart.is (c.in-Some.ensures.is ∙ ap (λ (p : List ℕ). ty_at p (type_at c.args.mint.now c.args.id)) c.as_slice.ensures)
    (c.in-Some-Choice.ensures.is ∙ ap (level us) c.in-Some-Choice.field-0-is) c.requires.taken in (
      omega (arith, c.in-Some.ensures.below),
      (
        omega (arith, c.requires.id, c.in-Some.ensures.below),
        (
          c.requires.classes,
          (
            search rules,
            subst (ArmsTaken c.args.classes.now.enc us c.in-Some-Choice.arms) (sym c.into_value.ensures)
                (arms-taken c.args.classes.now.enc us c.in-Some-Choice.arms c.in-Some-Choice.other c.args.cases c.args.last taken).0,
          ),
        ),
      ),
    )

pub switch_bodies-hoist_last-requires : goal.switch_bodies-hoist_last-requires
switch_bodies-hoist_last-requires t c =
    let us = unfolded c.args.mint.now in
    let taken = switch-apart c.args.classes.now.enc (type_at c.args.mint.now c.args.id) c.args.path.now c.args.plan
    (type_at c.args.mint.now c.in-Some.part) _ (mint_arms us c.in-Some-Choice.arms c.in-Some-Choice.other)
    (cases_seen c.args.cases c.args.last)
    c.in-Apart.is (c.in-Some.ensures.is ∙ ap (λ (p : List ℕ). ty_at p (type_at c.args.mint.now c.args.id)) c.as_slice.ensures)
    (c.in-Some-Choice.ensures.is ∙ ap (level us) c.in-Some-Choice.field-0-is) c.requires.taken in (
      omega (arith, c.in-Some.ensures.below),
      (
        omega (arith, c.requires.id, c.in-Some.ensures.below),
        (
          c.requires.classes,
          (
            search rules,
            (arms-taken c.args.classes.now.enc us c.in-Some-Choice.arms c.in-Some-Choice.other c.args.cases c.args.last taken).1,
          ),
        ),
      ),
    )

pub switch_bodies-returns-in_ok-new-in-Apart : goal.switch_bodies-returns-in_ok-new-in-Apart
switch_bodies-returns-in_ok-new-in-Apart t c =
    let us = unfolded c.args.mint.now in
    switch-kept c.args.classes.now.enc (type_at c.args.mint.now c.args.id) c.args.path.now c.args.plan
    (type_at c.args.mint.now c.in-Some.part) _ (mint_arms us c.in-Some-Choice.arms c.in-Some-Choice.other)
    (cases_seen c.args.cases c.args.last) _
    c.in-Apart.is (c.in-Some.ensures.is ∙ ap (λ (p : List ℕ). ty_at p (type_at c.args.mint.now c.args.id)) c.as_slice.ensures)
    (c.in-Some-Choice.ensures.is ∙ ap (level us) c.in-Some-Choice.field-0-is)
    (ap (λ (l : List (ℤ × List SendOp)). cases_seen l c.in_ok-rest-in-Apart.rest) c.in_ok-new-in-Apart.ensures
    ∙ cases-hoisted c.args.classes.now.enc us c.in-Some-Choice.arms c.in-Some-Choice.other c.args.cases c.in_ok-bodies-in-Apart.bodies
    c.args.last c.in_ok-rest-in-Apart.rest
    (subst (λ (l : List (ℤ × List SendOp)). AreHoisted c.args.classes.now.enc us c.in-Some-Choice.arms l c.in_ok-bodies-in-Apart.bodies)
    c.into_value.ensures c.in_ok-bodies-in-Apart.ensures) c.in_ok-rest-in-Apart.ensures)

pub each_body-returns-in-Some-Items : goal.each_body-returns-in-Some-Items
each_body-returns-in-Some-Items t c =
    let us = unfolded c.args.mint.now in
    let ty = type_at c.args.mint.now c.args.id in
    let b : Block = code_seen c.args.body in
    IfOk-weaker c.hoist_ops.result _ (λ body. code_seen body ≡ kept (plan_seen c.args.path.now c.args.plan) b
    (closed (hoisted (span_roles c.args.classes.now.enc) (or_void (items_at c.args.path.now ty)) b)))
    (λ body e. each-kept c.args.classes.now.enc ty c.args.path.now c.args.plan (type_at c.args.mint.now c.in-Some.part) _ _ b
    (code_seen body)
    c.in-Apart.is (c.in-Some.ensures.is ∙ ap (λ (p : List ℕ). ty_at p ty) c.as_slice.ensures)
    (c.in-Some-Items.ensures.is ∙ ap (level us) c.in-Some-Items.field-0-is) e) c.hoist_ops.ensures

pub some_body-returns-in-Some-Maybe : goal.some_body-returns-in-Some-Maybe
some_body-returns-in-Some-Maybe t c =
    let us = unfolded c.args.mint.now in
    let ty = type_at c.args.mint.now c.args.id in
    let b : Block = code_seen c.args.body in
    IfOk-weaker c.hoist_ops.result _ (λ body. code_seen body ≡ kept (plan_seen c.args.path.now c.args.plan) b
    (closed (hoisted (span_roles c.args.classes.now.enc) (or_void (present_at c.args.path.now ty)) b)))
    (λ body e. some-kept c.args.classes.now.enc ty c.args.path.now c.args.plan (type_at c.args.mint.now c.in-Some.part) _ b (code_seen body)
    c.in-Apart.is (c.in-Some.ensures.is ∙ ap (λ (p : List ℕ). ty_at p ty) c.as_slice.ensures)
    (c.in-Some-Maybe.ensures.is ∙ ap (level us) c.in-Some-Maybe.field-0-is) e) c.hoist_ops.ensures
