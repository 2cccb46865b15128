use Rattle.std.proofs.Common.{◌≡◌, ℕ, List, ap, ◌∙◌, refl, arith, if◌then◌else◌, Some, sym}
use Rattle.cast_stub.specs.Steps.{is_width}
use Rattle.cast_stub.specs.Block.{ensure, ensure_row, align, chunk, row_copy, row_swap, row_wide, each, switch, if_there, call, patch, op_seen, code_seen, cases_seen}
use Rattle.cast_stub.proofs.Pieces.{seen-Ensure, seen-EnsureRow, seen-Align, seen-Chunk, seen-RowCopy, seen-RowSwap, seen-RowWide, seen-Each, seen-Switch, seen-Some, seen-Call, seen-Patch}
use Rattle.stub_flat.specs.Places.{Spot, node_of, spot_at, element, present, row_kind}
use Rattle.stub_flat.specs.Residues.{every, sum, moved, aligned, closed}
use Rattle.stub_flat.specs.Leaves.{leaves, ways_leave, width_of}
use Rattle.stub_compare.proofs.CompareLinear.{leaves_linear}
use Rattle.stub_compare.proofs.CompareTables.{closed_led, led_same, row_is, rows_led, table_led}
use Rattle.stub_compare.proofs.CompareLeads.{leads_by, sum_led, led_at, left_all, left_one, left_none, ways_all, ways_one, ways_last, ways_end}
use Rattle.stub_compare.proofs.compare_leaves.+lead.Goals as goal

-- ---- blocks

pub lead_ops-loop-op-init : goal.lead_ops-loop-op-init
lead_ops-loop-op-init t c = left_all _ _ _ _

pub lead_ops-loop-op-preserved : goal.lead_ops-loop-op-preserved
lead_ops-loop-op-preserved t c =
    left_one _ _ _ c.as_slice-op-items.result.now c.loop-op.op-index c.op-item.result _ _ _ c.loop-op-test.true c.op-item.is
    c.loop-op.invariant c.lead_op-here.ensures

pub lead_ops-returns : goal.lead_ops-returns
lead_ops-returns t c =
    left_none _ _ c.args.ops.now c.as_slice-op-items.result.now c.loop-op.op-index _ _ (omega (arith, c.loop-op-test.false))
    c.as_slice-op-items.ensures c.loop-op.invariant

-- ---- operations

pub lead_op-returns-in-Ensure : goal.lead_op-returns-in-Ensure
lead_op-returns-in-Ensure t c =
    leads_by _ _ c.args.op.now (ensure c.in-Ensure.field-0) (λ S. S) _ _
    (ap op_seen c.in-Ensure.is ∙ seen-Ensure c.in-Ensure.field-0) (λ r S. refl) (led_same _)

pub lead_op-returns-in-EnsureRow : goal.lead_op-returns-in-EnsureRow
lead_op-returns-in-EnsureRow t c =
    let x = c.in-EnsureRow in
    leads_by _ _ c.args.op.now (ensure_row x.field-0 x.field-1 x.field-2) (λ S. S) _ _
    (ap op_seen x.is ∙ seen-EnsureRow x.field-0 x.field-1 x.field-2) (λ r S. refl) (led_same _)

pub lead_op-returns-in-Align : goal.lead_op-returns-in-Align
lead_op-returns-in-Align t c =
    leads_by _ _ c.args.op.now (align c.in-Align.a) (λ S. if is_width c.in-Align.a then aligned c.in-Align.a S else S) _ _
    (ap op_seen c.in-Align.is ∙ seen-Align c.in-Align.a) (λ r S. refl) c.align_where.ensures

pub lead_op-returns-in-Chunk : goal.lead_op-returns-in-Chunk
lead_op-returns-in-Chunk t c =
    leads_by _ _ c.args.op.now (chunk c.in-Chunk.size c.in-Chunk.field-1) (moved c.in-Chunk.size) _ _
    (ap op_seen c.in-Chunk.is ∙ seen-Chunk c.in-Chunk.size c.in-Chunk.field-1) (λ r S. refl)
    (rows_led (moved c.in-Chunk.size) _ _ c.move_each.ensures)

pub lead_op-returns-in-RowCopy : goal.lead_op-returns-in-RowCopy
lead_op-returns-in-RowCopy t c =
    let N = c.args.mint.now in
    leads_by _ _ c.args.op.now (row_copy c.in-RowCopy.path)
    (closed (moved (width_of (row_kind (node_of N (spot_at N c.in-RowCopy.path c.args.spot)))))) _ _
    (ap op_seen c.in-RowCopy.is ∙ seen-RowCopy c.in-RowCopy.path) (λ r S. refl) c.lead_row.ensures

pub lead_op-returns-in-RowSwap : goal.lead_op-returns-in-RowSwap
lead_op-returns-in-RowSwap t c =
    let N = c.args.mint.now in
    leads_by _ _ c.args.op.now (row_swap c.in-RowSwap.path)
    (closed (moved (width_of (row_kind (node_of N (spot_at N c.in-RowSwap.path c.args.spot)))))) _ _
    (ap op_seen c.in-RowSwap.is ∙ seen-RowSwap c.in-RowSwap.path) (λ r S. refl) c.lead_row-in-RowSwap.ensures

pub lead_op-returns-in-RowWide : goal.lead_op-returns-in-RowWide
lead_op-returns-in-RowWide t c =
    leads_by _ _ c.args.op.now (row_wide c.in-RowWide.field-0 c.in-RowWide.field-1) (closed (moved 4)) _ _
    (ap op_seen c.in-RowWide.is ∙ seen-RowWide c.in-RowWide.field-0 c.in-RowWide.field-1) (λ r S. refl) c.close_by.ensures

pub lead_op-returns-in-Each : goal.lead_op-returns-in-Each
lead_op-returns-in-Each t c =
    let N = c.args.mint.now in
    let x = c.in-Each in
    let here = c.element_at-inner.result in
    let place : here ≡ element (node_of N (spot_at N x.path c.args.spot)) =
    c.element_at-inner.ensures ∙ ap (λ (s : Spot). element (node_of N s))
    (c.spot_at.ensures ∙ ap (λ (p : List ℕ). spot_at N p c.args.spot) c.as_slice.ensures) in
    let f = leaves N here (code_seen x.body) in
    let turn = table_led f (leaves_linear N here (code_seen x.body)) c.start.result c.lead_ops-turn.result c.start.ensures
    c.lead_ops-turn.ensures in
    leads_by _ _ c.args.op.now (each x.path (code_seen x.body))
    (closed (leaves N (element (node_of N (spot_at N x.path c.args.spot))) (code_seen x.body))) _ _
    (ap op_seen x.is ∙ seen-Each x.path x.body) (λ r S. refl)
    (led_at (λ (s : Spot). closed (leaves N s (code_seen x.body))) _ _ c.args.table.now c.close_each.result place
    (closed_led f (leaves_linear N here (code_seen x.body)) c.lead_ops-turn.result c.args.table.now c.close_each.result turn
    c.close_each.ensures))

pub lead_op-returns-in-Switch : goal.lead_op-returns-in-Switch
lead_op-returns-in-Switch t c =
    let N = c.args.mint.now in
    let x = c.in-Switch in
    let cs = cases_seen x.cases x.last in
    leads_by _ _ c.args.op.now (switch x.path cs) (ways_leave N (node_of N (spot_at N x.path c.args.spot)) cs cs) _ _
    (ap op_seen x.is ∙ seen-Switch x.path x.cases x.last) (λ r S. refl)
    (led_at (λ (s : Spot). ways_leave N (node_of N s) cs cs) _ _ c.args.table.now c.lead_ways.result
    (c.spot_at-place.ensures ∙ ap (λ (p : List ℕ). spot_at N p c.args.spot) c.as_slice-in-Switch.ensures)
    (rw c.deref.ensures at c.lead_ways.ensures))

pub lead_op-returns-in-Some : goal.lead_op-returns-in-Some
lead_op-returns-in-Some t c =
    let N = c.args.mint.now in
    let x = c.in-Some in
    let g = leaves N (present (node_of N (spot_at N x.path c.args.spot))) (code_seen x.body) in
    leads_by _ _ c.args.op.now (if_there x.path (code_seen x.body)) (λ S. sum S (g S)) _ _
    (ap op_seen x.is ∙ seen-Some x.path x.body) (λ r S. refl)
    (sum_led g c.args.table.now c.lead_ops-behind.result c.sum_each.result
    (led_at (λ (s : Spot). leaves N s (code_seen x.body)) _ _ c.args.table.now c.lead_ops-behind.result
    (c.present_at-inner.ensures ∙ ap (λ (s : Spot). present (node_of N s))
    (c.spot_at-in-Some.ensures ∙ ap (λ (p : List ℕ). spot_at N p c.args.spot) c.as_slice-in-Some.ensures)) c.lead_ops-behind.ensures)
    c.sum_each.ensures)

pub lead_op-returns-in-Call : goal.lead_op-returns-in-Call
lead_op-returns-in-Call t c =
    leads_by _ _ c.args.op.now (call c.in-Call.field-0 c.in-Call.field-1) (λ S. every) _ _
    (ap op_seen c.in-Call.is ∙ seen-Call c.in-Call.field-0 c.in-Call.field-1) (λ r S. refl) (row_is (λ k. every) _ c.every_each.ensures)

pub lead_op-returns-in-Patch : goal.lead_op-returns-in-Patch
lead_op-returns-in-Patch t c =
    let x = c.in-Patch in
    leads_by _ _ c.args.op.now (patch x.field-0 x.field-1 x.field-2) (λ S. S) _ _
    (ap op_seen x.is ∙ seen-Patch x.field-0 x.field-1 x.field-2) (λ r S. refl) (led_same _)

-- ---- bodies of a switch

pub lead_ways-loop-case-init : goal.lead_ways-loop-case-init
lead_ways-loop-case-init t c =
    let N = c.args.mint.now in
    ways_all N (node_of N c.args.place) (cases_seen c.args.cases.now c.args.last.now)
    (cases_seen c.as_slice-case-items.result.now c.args.last.now) c.args.table.now c.none_each-total.result c.none_each-total.ensures

pub lead_ways-loop-case-preserved : goal.lead_ways-loop-case-preserved
lead_ways-loop-case-preserved t c =
    let N = c.args.mint.now in
    ways_one N (node_of N c.args.place) (cases_seen c.args.cases.now c.args.last.now)
    (cases_seen c.as_slice-case-items.result.now c.args.last.now) c.as_slice-case-items.result.now c.args.last.now
    c.loop-case.case-index c.case-item.result c.arm_spot_at-spot.result c.args.table.now c.loop-case.total c.lead_ops-behind.result
    c.sum_each-total.result c.loop-case-test.true c.case-item.is c.arm_spot_at-spot.ensures c.loop-case.invariant
    c.lead_ops-behind.ensures c.sum_each-total.ensures

pub lead_ways-returns-in-Some : goal.lead_ways-returns-in-Some
lead_ways-returns-in-Some t c =
    let N = c.args.mint.now in
    ways_last N (node_of N c.args.place) (cases_seen c.args.cases.now c.args.last.now) c.as_slice-case-items.result.now
    c.args.cases.now c.args.last.now c.loop-case.case-index c.deref.result.now c.rest_spot_at-spot.result c.args.table.now
    c.loop-case.total c.lead_ops-behind-in-Some.result c.sum_each.result (omega (arith, c.loop-case-test.false))
    c.as_slice-case-items.ensures (c.in-Some.is ∙ ap Some (sym c.deref.ensures))
    (c.rest_spot_at-spot.ensures c.args.last.now) c.loop-case.invariant
    c.lead_ops-behind-in-Some.ensures c.sum_each.ensures

pub lead_ways-returns-in-None : goal.lead_ways-returns-in-None
lead_ways-returns-in-None t c =
    let N = c.args.mint.now in
    ways_end N (node_of N c.args.place) (cases_seen c.args.cases.now c.args.last.now) c.as_slice-case-items.result.now
    c.args.cases.now c.args.last.now c.loop-case.case-index c.args.table.now c.loop-case.total c.none_each.result
    c.sum_each-in-None.result (omega (arith, c.loop-case-test.false)) c.as_slice-case-items.ensures c.in-None.is
    c.loop-case.invariant c.none_each.ensures c.sum_each-in-None.ensures
