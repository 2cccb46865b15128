use Rattle.std.proofs.Common.{if◌then◌else◌, ap, ◌∙◌, sym, refl, arith, Some}
use Rattle.cast_stub.specs.Steps.{is_width}
use Rattle.cast_stub.specs.Block.{ensure, ensure_row, align, chunk, row_copy, row_swap, row_wide, each, switch, if_there, call, patch, op_seen, code_seen, cases_seen}
use Rattle.cast_stub.proofs.Pieces.{seen-Ensure, seen-EnsureRow, seen-Align, seen-Chunk, seen-RowCopy, seen-RowSwap, seen-RowWide, seen-Each, seen-Switch, seen-Some, seen-Call, seen-Patch}
use Rattle.stub_flat.specs.Places.{node_of, spot_at, element, present, row_kind}
use Rattle.stub_flat.specs.Residues.{every, sum, moved, aligned, closed}
use Rattle.stub_flat.specs.Leaves.{leaves, ways_leave, width_of}
use Rattle.stub_rooms.specs.CoversLap.{nodes}
use Rattle.stub_rooms.proofs.RoomsEights.{moved_shown, kept_shown}
use Rattle.stub_rooms.proofs.CoversLeading.{leads_by, leads_if, each_shown, some_shown, ways_at_place, row_shown, size_left, sum_shown, every_shown, left_all, left_one, left_none, ways_all, ways_one, ways_last, ways_end, ways_seen, closing_none, closing_within, closing_more, closing_all, lap_moved, lap_led}
use Rattle.stub_rooms.proofs.covers_leaves.+leaves.Goals as goal

-- ---- blocks

pub leaves-loop-op-init : goal.leaves-loop-op-init
leaves-loop-op-init t c = left_all _ _ _ _

pub leaves-loop-op-preserved : goal.leaves-loop-op-preserved
leaves-loop-op-preserved t c =
    left_one _ _ _ _ c.as_slice-op-items.result.now c.loop-op.op-index c.op-item.result _ _ _ c.loop-op-test.true c.op-item.is
    c.in_ok-inner.ensures.mint c.loop-op.invariant c.in_ok-here.ensures

pub leaves-returns : goal.leaves-returns
leaves-returns t c =
    left_none _ _ c.args.ops.now c.as_slice-op-items.result.now c.loop-op.op-index _ _ (omega (arith, c.loop-op-test.false))
    c.as_slice-op-items.ensures c.loop-op.invariant

-- ---- operations

pub leave_op-returns-in-Ensure : goal.leave_op-returns-in-Ensure
leave_op-returns-in-Ensure t c =
    leads_by _ _ c.args.op.now (ensure c.in-Ensure.field-0) (λ S. S) _ _
    (ap op_seen c.in-Ensure.is ∙ seen-Ensure c.in-Ensure.field-0) (λ r S. refl) (kept_shown _)

pub leave_op-returns-in-EnsureRow : goal.leave_op-returns-in-EnsureRow
leave_op-returns-in-EnsureRow t c =
    let x = c.in-EnsureRow in
    leads_by _ _ c.args.op.now (ensure_row x.field-0 x.field-1 x.field-2) (λ S. S) _ _
    (ap op_seen x.is ∙ seen-EnsureRow x.field-0 x.field-1 x.field-2) (λ r S. refl) (kept_shown _)

pub leave_op-returns-in-Align : goal.leave_op-returns-in-Align
leave_op-returns-in-Align t c =
    leads_by _ _ c.args.op.now (align c.in-Align.a) (λ S. if is_width c.in-Align.a then aligned c.in-Align.a S else S) _ _
    (ap op_seen c.in-Align.is ∙ seen-Align c.in-Align.a) (λ r S. refl) c.leave_align.ensures

pub leave_op-returns-in-Chunk : goal.leave_op-returns-in-Chunk
leave_op-returns-in-Chunk t c =
    leads_by _ _ c.args.op.now (chunk c.in-Chunk.size c.in-Chunk.field-1) (moved c.in-Chunk.size) _ _
    (ap op_seen c.in-Chunk.is ∙ seen-Chunk c.in-Chunk.size c.in-Chunk.field-1) (λ r S. refl)
    (moved_shown c.in-Chunk.size _ _ c.moved.ensures)

pub leave_op-returns-in-RowCopy : goal.leave_op-returns-in-RowCopy
leave_op-returns-in-RowCopy t c =
    let N = nodes c.args.walk.now in
    leads_if _ _ c.args.op.now (row_copy c.in-RowCopy.path)
    (closed (moved (width_of (row_kind (node_of N (spot_at N c.in-RowCopy.path c.args.spot)))))) _ _
    (ap op_seen c.in-RowCopy.is ∙ seen-RowCopy c.in-RowCopy.path) (λ r S. refl) c.leave_row.ensures

pub leave_op-returns-in-RowSwap : goal.leave_op-returns-in-RowSwap
leave_op-returns-in-RowSwap t c =
    let N = nodes c.args.walk.now in
    leads_if _ _ c.args.op.now (row_swap c.in-RowSwap.path)
    (closed (moved (width_of (row_kind (node_of N (spot_at N c.in-RowSwap.path c.args.spot)))))) _ _
    (ap op_seen c.in-RowSwap.is ∙ seen-RowSwap c.in-RowSwap.path) (λ r S. refl) c.leave_row-in-RowSwap.ensures

pub leave_op-returns-in-RowWide : goal.leave_op-returns-in-RowWide
leave_op-returns-in-RowWide t c =
    leads_if _ _ c.args.op.now (row_wide c.in-RowWide.field-0 c.in-RowWide.field-1) (closed (moved 4)) _ _
    (ap op_seen c.in-RowWide.is ∙ seen-RowWide c.in-RowWide.field-0 c.in-RowWide.field-1) (λ r S. refl) c.closed.ensures

pub leave_op-returns-in-Each : goal.leave_op-returns-in-Each
leave_op-returns-in-Each t c =
    let N = nodes c.args.walk.now in
    leads_if _ _ c.args.op.now (each c.in-Each.path (code_seen c.in-Each.body))
    (closed (leaves N (element (node_of N (spot_at N c.in-Each.path c.args.spot))) (code_seen c.in-Each.body))) _ _
    (ap op_seen c.in-Each.is ∙ seen-Each c.in-Each.path c.in-Each.body) (λ r S. refl)
    (each_shown N _ _ _ _ _ (c.element_at.ensures ∙ ap (λ s. element (node_of N s)) c.place_at.ensures) c.closed-in-Each.ensures)

pub leave_op-returns-in-Switch : goal.leave_op-returns-in-Switch
leave_op-returns-in-Switch t c =
    let N = nodes c.args.walk.now in
    let x = c.in-Switch in
    let cs = cases_seen x.cases x.last in
    leads_if _ _ c.args.op.now (switch x.path cs) (ways_leave N (node_of N (spot_at N x.path c.args.spot)) cs cs) _ _
    (ap op_seen x.is ∙ seen-Switch x.path x.cases x.last) (λ r S. refl)
    (ways_at_place N cs _ _ _ _ c.place_at-place.ensures (rw c.deref.ensures at c.leave_ways.ensures))

pub leave_op-returns-in_ok-leaves-in-Some : goal.leave_op-returns-in_ok-leaves-in-Some
leave_op-returns-in_ok-leaves-in-Some t c =
    let N = nodes c.args.walk.now in
    let x = c.in-Some in
    let g = leaves N (present (node_of N (spot_at N x.path c.args.spot))) (code_seen x.body) in
    leads_by _ _ c.args.op.now (if_there x.path (code_seen x.body)) (λ S. sum S (g S)) _ _
    (ap op_seen x.is ∙ seen-Some x.path x.body) (λ r S. refl)
    (sum_shown g _ _ _ (some_shown N _ _ _ _ _ (c.present_at-inner.ensures ∙ ap (λ s. present (node_of N s)) c.place_at-in-Some.ensures)
    c.in_ok-leaves-in-Some.ensures) c.sum.ensures)

pub leave_op-returns-in-Call : goal.leave_op-returns-in-Call
leave_op-returns-in-Call t c =
    leads_by _ _ c.args.op.now (call c.in-Call.field-0 c.in-Call.field-1) (λ S. every) _ _
    (ap op_seen c.in-Call.is ∙ seen-Call c.in-Call.field-0 c.in-Call.field-1) (λ r S. refl) (every_shown _ _ c.every.ensures)

pub leave_op-returns-in-Patch : goal.leave_op-returns-in-Patch
leave_op-returns-in-Patch t c =
    let x = c.in-Patch in
    leads_by _ _ c.args.op.now (patch x.field-0 x.field-1 x.field-2) (λ S. S) _ _
    (ap op_seen x.is ∙ seen-Patch x.field-0 x.field-1 x.field-2) (λ r S. refl) (kept_shown _)

-- ---- rows, bodies of a switch, and laps

pub leave_row-returns : goal.leave_row-returns
leave_row-returns t c =
    let N = nodes c.args.walk.now in
    row_shown _ _ _ _
    (c.width_of-width.ensures ∙ ap width_of (c.row_kind_at.ensures ∙ ap (λ s. row_kind (node_of N s)) c.place_at-place.ensures))
    c.closed.ensures

pub leave_ways-loop-case-init : goal.leave_ways-loop-case-init
leave_ways-loop-case-init t c = ways_all _ _ _ _ _ _ c.none-all.ensures

pub leave_ways-loop-case-preserved : goal.leave_ways-loop-case-preserved
leave_ways-loop-case-preserved t c =
    ways_one _ _ _ _ c.as_slice-case-items.result.now c.args.last.now c.loop-case.case-index _ _ c.loop-case.invariant c.case-item.result
    _ _ _ c.loop-case-test.true c.case-item.is c.arm_spot_at-spot.ensures c.in_ok-leaves.ensures c.sum-all.ensures

pub leave_ways-returns-in_ok-leaves-in-Some : goal.leave_ways-returns-in_ok-leaves-in-Some
leave_ways-returns-in_ok-leaves-in-Some t c =
    ways_seen _ _ _ c.as_slice-case-items.result.now c.args.cases.now c.args.last.now _ _ c.as_slice-case-items.ensures
    (ways_last _ _ _ _ c.as_slice-case-items.result.now c.args.last.now c.loop-case.case-index _ _ c.loop-case.invariant
    c.deref.result.now _ _ _ (omega (arith, c.loop-case-test.false)) (c.in-Some.is ∙ ap Some (sym c.deref.ensures))
    (c.rest_spot_at-spot.ensures c.args.last.now)
    c.in_ok-leaves-in-Some.ensures c.sum.ensures)

pub leave_ways-returns-in-None : goal.leave_ways-returns-in-None
leave_ways-returns-in-None t c =
    ways_seen _ _ _ c.as_slice-case-items.result.now c.args.cases.now c.args.last.now _ _ c.as_slice-case-items.ensures
    (ways_end _ _ _ _ c.as_slice-case-items.result.now c.args.last.now c.loop-case.case-index _ _ c.loop-case.invariant _ _
    (omega (arith, c.loop-case-test.false)) c.in-None.is c.none.ensures c.sum-in-None.ensures)

pub leave_lap-returns-in-Octets : goal.leave_lap-returns-in-Octets
leave_lap-returns-in-Octets t c = lap_moved _ c.args.lap _ _ _ c.in-Octets.is (moved_shown c.in-Octets.width _ _ c.moved.ensures)

pub leave_lap-returns-in-Body : goal.leave_lap-returns-in-Body
leave_lap-returns-in-Body t c = lap_led _ c.args.lap _ _ _ c.in-Body.is c.leaves.ensures

pub closed-loop-init : goal.closed-loop-init
closed-loop-init t c = closing_none _ _ _ _ (size_left c.args.marks.now _ _ c.size-laps.ensures.is refl) refl

pub closed-loop-preserved : goal.closed-loop-preserved
closed-loop-preserved t c =
    closing_more _ _ _ _ _ _ _ c.loop.invariant c.loop-test.true c.in_ok-more.ensures
    (sym c.if-is_within.ensures) c.sum-all.ensures

pub closed-returns-then-is_within : goal.closed-returns-then-is_within
closed-returns-then-is_within t c =
    closing_within _ _ _ _ _ _ c.loop.invariant c.loop-test.true c.in_ok-more.ensures (sym c.if-is_within.ensures)

pub closed-returns : goal.closed-returns
closed-returns t c = closing_all _ _ _ _ _ c.loop.invariant (omega (arith, c.loop-test.false))
