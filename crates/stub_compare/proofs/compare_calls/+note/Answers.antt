use Rattle.std.proofs.Common.{ℕ, ◌+◌, true, false, List, [], ◌++◌, drop, ap, ◌∙◌, refl, arith, Some, sym}
use Rattle.cast_stub.specs.Block.{ensure, ensure_row, align, chunk, row_copy, row_swap, row_wide, each, switch, if_there, call, patch, op_seen, code_seen, cases_seen}
use Rattle.cast_stub.proofs.Pieces.{seen-Ensure, seen-EnsureRow, seen-Align, seen-Chunk, seen-RowCopy, seen-RowSwap, seen-RowWide, seen-Each, seen-Switch, seen-Some, seen-Call, seen-Patch}
use Rattle.stub_flat.specs.Places.{Spot, node_of, spot_at, element, present}
use Rattle.stub_flat.specs.Flat.{calls, way_calls}
use Rattle.stub_compare.proofs.CompareNoted.{through, no_calls, call_noted, noted_at, left_one, left_nothing, left_none, then_left, then_nothing, then_last, ways_open, ways_last, ways_end, all_ways, none_left, opened, call_at}
use Rattle.stub_compare.proofs.compare_calls.+note.Goals as goal

-- ---- operations

pub note_op-returns-in-Ensure-clause-noted : goal.note_op-returns-in-Ensure-clause-noted
note_op-returns-in-Ensure-clause-noted t c =
    no_calls _ _ c.args.op.now (ensure c.in-Ensure.field-0) _ (ap op_seen c.in-Ensure.is ∙ seen-Ensure c.in-Ensure.field-0) (λ r. refl)

pub note_op-returns-in-EnsureRow-clause-noted : goal.note_op-returns-in-EnsureRow-clause-noted
note_op-returns-in-EnsureRow-clause-noted t c =
    let x = c.in-EnsureRow in
    no_calls _ _ c.args.op.now (ensure_row x.field-0 x.field-1 x.field-2) _
    (ap op_seen x.is ∙ seen-EnsureRow x.field-0 x.field-1 x.field-2) (λ r. refl)

pub note_op-returns-in-Align-clause-noted : goal.note_op-returns-in-Align-clause-noted
note_op-returns-in-Align-clause-noted t c =
    no_calls _ _ c.args.op.now (align c.in-Align.field-0) _ (ap op_seen c.in-Align.is ∙ seen-Align c.in-Align.field-0) (λ r. refl)

pub note_op-returns-in-Chunk-clause-noted : goal.note_op-returns-in-Chunk-clause-noted
note_op-returns-in-Chunk-clause-noted t c =
    let x = c.in-Chunk in
    no_calls _ _ c.args.op.now (chunk x.field-0 x.field-1) _ (ap op_seen x.is ∙ seen-Chunk x.field-0 x.field-1) (λ r. refl)

pub note_op-returns-in-RowCopy-clause-noted : goal.note_op-returns-in-RowCopy-clause-noted
note_op-returns-in-RowCopy-clause-noted t c =
    no_calls _ _ c.args.op.now (row_copy c.in-RowCopy.field-0) _ (ap op_seen c.in-RowCopy.is ∙ seen-RowCopy c.in-RowCopy.field-0)
    (λ r. refl)

pub note_op-returns-in-RowSwap-clause-noted : goal.note_op-returns-in-RowSwap-clause-noted
note_op-returns-in-RowSwap-clause-noted t c =
    no_calls _ _ c.args.op.now (row_swap c.in-RowSwap.field-0) _ (ap op_seen c.in-RowSwap.is ∙ seen-RowSwap c.in-RowSwap.field-0)
    (λ r. refl)

pub note_op-returns-in-RowWide-clause-noted : goal.note_op-returns-in-RowWide-clause-noted
note_op-returns-in-RowWide-clause-noted t c =
    let x = c.in-RowWide in
    no_calls _ _ c.args.op.now (row_wide x.field-0 x.field-1) _ (ap op_seen x.is ∙ seen-RowWide x.field-0 x.field-1) (λ r. refl)

pub note_op-returns-in-Each-clause-noted : goal.note_op-returns-in-Each-clause-noted
note_op-returns-in-Each-clause-noted t c =
    let N = c.args.mint.now in
    let x = c.in-Each in
    through _ N _ c.args.op.now (each x.path (code_seen x.body))
    (calls N (element (node_of N (spot_at N x.path c.args.spot))) (code_seen x.body))
    _ _ (ap op_seen x.is ∙ seen-Each x.path x.body) (λ r. refl)
    (noted_at (λ (s : Spot). calls N s (code_seen x.body)) _ _ _ _ _
    (c.element_at-inner.ensures ∙ ap (λ (s : Spot). element (node_of N s))
    (c.spot_at.ensures ∙ ap (λ (p : List ℕ). spot_at N p c.args.spot) c.as_slice.ensures)) c.note_ops.ensures.noted)

pub note_op-returns-in-Switch-clause-noted : goal.note_op-returns-in-Switch-clause-noted
note_op-returns-in-Switch-clause-noted t c =
    let N = c.args.mint.now in
    let x = c.in-Switch in
    let cs = cases_seen x.cases x.last in
    through _ N _ c.args.op.now (switch x.path cs) (way_calls N (node_of N (spot_at N x.path c.args.spot)) cs cs) _ _
    (ap op_seen x.is ∙ seen-Switch x.path x.cases x.last) (λ r. refl)
    (noted_at (λ (s : Spot). way_calls N (node_of N s) cs cs) _ _ _ _ _
    (c.spot_at-place.ensures ∙ ap (λ (p : List ℕ). spot_at N p c.args.spot) c.as_slice-in-Switch.ensures)
    (rw c.deref.ensures at c.note_ways.ensures.noted))

pub note_op-returns-in-Some-clause-noted : goal.note_op-returns-in-Some-clause-noted
note_op-returns-in-Some-clause-noted t c =
    let N = c.args.mint.now in
    let x = c.in-Some in
    through _ N _ c.args.op.now (if_there x.path (code_seen x.body))
    (calls N (present (node_of N (spot_at N x.path c.args.spot))) (code_seen x.body))
    _ _ (ap op_seen x.is ∙ seen-Some x.path x.body) (λ r. refl)
    (noted_at (λ (s : Spot). calls N s (code_seen x.body)) _ _ _ _ _
    (c.present_at-inner.ensures ∙ ap (λ (s : Spot). present (node_of N s))
    (c.spot_at-in-Some.ensures ∙ ap (λ (p : List ℕ). spot_at N p c.args.spot) c.as_slice-in-Some.ensures)) c.note_ops-in-Some.ensures.noted)

pub note_op-returns-in-Call-clause-noted : goal.note_op-returns-in-Call-clause-noted
note_op-returns-in-Call-clause-noted t c =
    let N = c.args.mint.now in
    let x = c.in-Call in
    call_noted _ N _ c.args.op.now (call x.k x.path) _ _ _ (ap op_seen x.is ∙ seen-Call x.k x.path) (λ r. refl)
    (call_at _ _ x.k _ _ _ (c.spot_at-in-Call.ensures ∙ ap (λ (p : List ℕ). spot_at N p c.args.spot) c.as_slice-in-Call.ensures)
    c.note.ensures.noted)

pub note_op-returns-in-Patch-clause-noted : goal.note_op-returns-in-Patch-clause-noted
note_op-returns-in-Patch-clause-noted t c =
    let x = c.in-Patch in
    no_calls _ _ c.args.op.now (patch x.field-0 x.field-1 x.field-2) _
    (ap op_seen x.is ∙ seen-Patch x.field-0 x.field-1 x.field-2) (λ r. refl)

-- ---- blocks

pub note_ops-loop-op-init : goal.note_ops-loop-op-init
note_ops-loop-op-init t c = record { left = refl; size = refl }

pub note_ops-loop-op-preserved : goal.note_ops-loop-op-preserved
note_ops-loop-op-preserved t c = record {
  left = left_one c.args.mint.now c.args.spot (calls c.args.mint.now c.args.spot (code_seen c.as_slice-op-items.result.now))
      c.as_slice-op-items.result.now c.loop-op.op-index c.op-item.result c.note_op.result c.args.nodes.now.items c.loop-op.nodes.items
      c.note_op.new.nodes.items c.loop-op-test.true c.op-item.is c.if-not-note_op.false c.loop-op.invariant.left c.note_op.ensures.noted;
  size = c.note_op.ensures.len ∙ c.loop-op.invariant.size;
}

pub note_ops-returns-then-not-note_op-clause-noted : goal.note_ops-returns-then-not-note_op-clause-noted
note_ops-returns-then-not-note_op-clause-noted t c =
    left_nothing c.args.mint.now c.args.spot c.args.ops.now c.as_slice-op-items.result.now c.loop-op.op-index c.op-item.result
    c.note_op.result c.args.nodes.now.items c.loop-op.nodes.items c.note_op.new.nodes.items _ c.loop-op-test.true
    c.op-item.is c.if-not-note_op.true c.as_slice-op-items.ensures c.loop-op.invariant.left c.note_op.ensures.noted

pub note_ops-returns-clause-noted : goal.note_ops-returns-clause-noted
note_ops-returns-clause-noted t c =
    left_none c.args.mint.now c.args.spot c.args.ops.now c.as_slice-op-items.result.now c.loop-op.op-index c.args.nodes.now.items
    c.loop-op.nodes.items (omega (arith, c.loop-op-test.false)) c.as_slice-op-items.ensures c.loop-op.invariant.left

-- ---- bodies of a switch

pub note_ways-loop-case-init : goal.note_ways-loop-case-init
note_ways-loop-case-init t c = record { left = refl; size = refl }

pub note_ways-loop-case-preserved : goal.note_ways-loop-case-preserved
note_ways-loop-case-preserved t c =
    let N = c.args.mint.now in
    let n = node_of N c.args.place in
    let all = cases_seen c.args.cases.now c.args.last.now in
    let xs = c.as_slice-case-items.result.now in
    let last = c.args.last.now in
    let i = c.loop-case.case-index in
    let z = c.case-item.result in
    let spot = c.arm_spot_at-spot.result in
    let body = calls N spot (code_seen z.1) in
    let rest = way_calls N n all (cases_seen (drop (i + 1) xs) last) in
    let now = c.loop-case.nodes.items in
    record {
      left = then_left (way_calls N n all (cases_seen xs last)) body rest c.note_ops.result c.args.nodes.now.items now
          c.note_ops.new.nodes.items c.if-not-note_ops.false
          (c.loop-case.invariant.left ∙ opened (way_calls N n all (cases_seen (drop i xs) last)) (body ++ rest) now
          (ways_open N n all xs last i z spot c.loop-case-test.true c.case-item.is c.arm_spot_at-spot.ensures)) c.note_ops.ensures.noted;
      size = c.note_ops.ensures.len ∙ c.loop-case.invariant.size;
    }

pub note_ways-returns-then-not-note_ops-clause-noted : goal.note_ways-returns-then-not-note_ops-clause-noted
note_ways-returns-then-not-note_ops-clause-noted t c =
    let N = c.args.mint.now in
    let n = node_of N c.args.place in
    let all = cases_seen c.args.cases.now c.args.last.now in
    let xs = c.as_slice-case-items.result.now in
    let last = c.args.last.now in
    let i = c.loop-case.case-index in
    let z = c.case-item.result in
    let spot = c.arm_spot_at-spot.result in
    let body = calls N spot (code_seen z.1) in
    let rest = way_calls N n all (cases_seen (drop (i + 1) xs) last) in
    let old = c.args.nodes.now.items in
    let now = c.loop-case.nodes.items in
    let new = c.note_ops.new.nodes.items in
    all_ways N n all xs c.args.cases.now last false old new c.as_slice-case-items.ensures
    (then_nothing (way_calls N n all (cases_seen xs last)) body rest c.note_ops.result old now new new c.if-not-note_ops.true
    (c.loop-case.invariant.left ∙ opened (way_calls N n all (cases_seen (drop i xs) last)) (body ++ rest) now
    (ways_open N n all xs last i z spot c.loop-case-test.true c.case-item.is c.arm_spot_at-spot.ensures)) c.note_ops.ensures.noted)

pub note_ways-returns-in-Some-clause-noted : goal.note_ways-returns-in-Some-clause-noted
note_ways-returns-in-Some-clause-noted t c =
    let N = c.args.mint.now in
    let n = node_of N c.args.place in
    let all = cases_seen c.args.cases.now c.args.last.now in
    let xs = c.as_slice-case-items.result.now in
    let last = c.args.last.now in
    let i = c.loop-case.case-index in
    let spot = c.rest_spot_at-spot.result in
    let body = calls N spot (code_seen c.deref.result.now) in
    let old = c.args.nodes.now.items in
    let now = c.loop-case.nodes.items in
    let new = c.note_ops-in-Some.new.nodes.items in
    all_ways N n all xs c.args.cases.now last c.note_ops-in-Some.result old new c.as_slice-case-items.ensures
    (then_last (way_calls N n all (cases_seen xs last)) body c.note_ops-in-Some.result old now new
    (c.loop-case.invariant.left ∙ opened (way_calls N n all (cases_seen (drop i xs) last)) body now
    (ways_last N n all xs last i c.deref.result.now spot (omega (arith, c.loop-case-test.false))
    (c.in-Some.is ∙ ap Some (sym c.deref.ensures))
    (c.rest_spot_at-spot.ensures c.args.last.now))) c.note_ops-in-Some.ensures.noted)

pub note_ways-returns-in-None-clause-noted : goal.note_ways-returns-in-None-clause-noted
note_ways-returns-in-None-clause-noted t c =
    let N = c.args.mint.now in
    let n = node_of N c.args.place in
    let all = cases_seen c.args.cases.now c.args.last.now in
    let xs = c.as_slice-case-items.result.now in
    let last = c.args.last.now in
    let i = c.loop-case.case-index in
    let old = c.args.nodes.now.items in
    let now = c.loop-case.nodes.items in
    all_ways N n all xs c.args.cases.now last true old now c.as_slice-case-items.ensures
    (none_left (way_calls N n all (cases_seen xs last)) old now
    (c.loop-case.invariant.left ∙ opened (way_calls N n all (cases_seen (drop i xs) last)) [] now
    (ways_end N n all xs last i (omega (arith, c.loop-case-test.false)) c.in-None.is)))
