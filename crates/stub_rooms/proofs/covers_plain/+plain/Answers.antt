use Rattle.std.proofs.Common.{ap, ◌∙◌, refl, arith, Some, sym}
use Rattle.cast_stub.specs.Block.{each, switch, if_there, op_seen, code_seen, cases_seen}
use Rattle.cast_stub.proofs.Pieces.{seen-Each, seen-Switch, seen-Some}
use Rattle.stub_cover.specs.Covers.{is_plain, are_plain}
use Rattle.stub_rooms.proofs.CoversPlain.{plain_if, plain_one, plain_not, plain_all, case_one, case_not, cases_if, cases_all}
use Rattle.stub_rooms.proofs.covers_plain.+plain.Goals as goal

pub is_plain-loop-op-preserved : goal.is_plain-loop-op-preserved
is_plain-loop-op-preserved t c =
    plain_one c.as_slice-op-items.result.now c.loop-op.op-index c.loop-op.invariant c.op-item.result _ c.loop-op-test.true c.op-item.is
    c.in_ok-plain.ensures c.if-not-plain.false

pub is_plain-returns-then-not-plain : goal.is_plain-returns-then-not-plain
is_plain-returns-then-not-plain t c =
    plain_not c.as_slice-op-items.result.now c.loop-op.op-index c.loop-op.invariant c.args.ops.now c.op-item.result _
    c.loop-op-test.true c.op-item.is c.in_ok-plain.ensures c.if-not-plain.true c.as_slice-op-items.ensures

pub is_plain-returns : goal.is_plain-returns
is_plain-returns t c =
    plain_all c.as_slice-op-items.result.now c.loop-op.op-index c.loop-op.invariant c.args.ops.now
    (omega (arith, c.loop-op-test.false)) c.as_slice-op-items.ensures

pub is_plain_op-returns-in-Each : goal.is_plain_op-returns-in-Each
is_plain_op-returns-in-Each t c =
    let x = c.in-Each in
    plain_if c.args.op.now (each x.field-0 (code_seen x.body)) (is_plain (code_seen x.body)) _
    (ap op_seen x.is ∙ seen-Each x.field-0 x.body) (λ r. refl) c.is_plain.ensures

pub is_plain_op-returns-in-Switch : goal.is_plain_op-returns-in-Switch
is_plain_op-returns-in-Switch t c =
    let x = c.in-Switch in
    plain_if c.args.op.now (switch x.field-0 (cases_seen x.cases x.last)) (are_plain (cases_seen x.cases x.last)) _
    (ap op_seen x.is ∙ seen-Switch x.field-0 x.cases x.last) (λ r. refl) (rw c.deref.ensures at c.are_plain.ensures)

pub is_plain_op-returns-in-Some : goal.is_plain_op-returns-in-Some
is_plain_op-returns-in-Some t c =
    let x = c.in-Some in
    plain_if c.args.op.now (if_there x.field-0 (code_seen x.body)) (is_plain (code_seen x.body)) _
    (ap op_seen x.is ∙ seen-Some x.field-0 x.body) (λ r. refl) c.is_plain-in-Some.ensures

pub are_plain-loop-case-preserved : goal.are_plain-loop-case-preserved
are_plain-loop-case-preserved t c =
    case_one c.as_slice-case-items.result.now c.args.last.now c.loop-case.case-index c.loop-case.invariant c.case-item.result _
    c.loop-case-test.true c.case-item.is c.in_ok-plain.ensures c.if-not-plain.false

pub are_plain-returns-then-not-plain : goal.are_plain-returns-then-not-plain
are_plain-returns-then-not-plain t c =
    case_not c.as_slice-case-items.result.now c.args.last.now c.loop-case.case-index c.loop-case.invariant c.args.cases.now
    c.case-item.result _ c.loop-case-test.true c.case-item.is c.in_ok-plain.ensures c.if-not-plain.true c.as_slice-case-items.ensures

pub are_plain-returns-in-Some : goal.are_plain-returns-in-Some
are_plain-returns-in-Some t c =
    cases_if c.as_slice-case-items.result.now c.args.last.now c.loop-case.case-index c.loop-case.invariant c.args.cases.now
    c.deref.result.now _ (omega (arith, c.loop-case-test.false)) c.as_slice-case-items.ensures
    (c.in-Some.is ∙ ap Some (sym c.deref.ensures)) c.is_plain-in-Some.ensures

pub are_plain-returns-in-None : goal.are_plain-returns-in-None
are_plain-returns-in-None t c =
    cases_all c.as_slice-case-items.result.now c.args.last.now c.loop-case.case-index c.loop-case.invariant c.args.cases.now
    (omega (arith, c.loop-case-test.false)) c.as_slice-case-items.ensures c.in-None.is
