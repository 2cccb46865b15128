use Rattle.std.proofs.Common.{ℕ, List, None, Some, ap, ◌∙◌, sym, refl, arith}
use Rattle.cast_stub.specs.Block.{ensure, ensure_row, align, chunk, row_copy, row_swap, row_wide, each, switch, if_there, call, patch, op_seen, code_seen, cases_seen}
use Rattle.cast_stub.proofs.Pieces.{seen-Ensure, seen-EnsureRow, seen-Align, seen-Chunk, seen-RowCopy, seen-RowSwap, seen-RowWide, seen-Each, seen-Switch, seen-Some, seen-Call, seen-Patch}
use Rattle.stub_flat.specs.Places.{Spot, node_of, spot_at, element, present}
use Rattle.stub_places.specs.Sets.{set_of}
use Rattle.stub_compare.proofs.CompareOps.{told_ensure}
use Rattle.stub_compare.proofs.CompareRows.{told_patch}
use Rattle.stub_compare.proofs.CompareArms.{seen_put, if_seen_put, if_for, if_for_all, if_switch, length_put, length_nothing, each_at, each_not_at, some_at, some_not_at, left_all, left_one, left_nothing, left_none, ways_all, ways_one, ways_nothing, ways_last, ways_last_nothing, no_ways, ways_end}
use Rattle.stub_compare.proofs.compare_items.+put.Goals as goal

-- ---- blocks

pub put_ops-loop-op-init : goal.put_ops-loop-op-init
put_ops-loop-op-init t c =
    left_all c.args.mint.now c.args.spot c.as_slice-op-items.result.now (set_of c.args.set.now) c.args.out.now

pub put_ops-loop-op-preserved : goal.put_ops-loop-op-preserved
put_ops-loop-op-preserved t c =
    left_one c.args.mint.now c.args.spot c.as_slice-op-items.result.now c.as_slice-op-items.result.now c.loop-op.op-index
    c.op-item.result c.in_ok-next.next c.in-Some.behind (set_of c.args.set.now) (set_of c.loop-op.here) c.args.out.now c.loop-op.out
    c.put_op.new.out c.loop-op-test.true c.op-item.is c.in-Some.is c.loop-op.invariant c.in_ok-next.ensures

pub put_ops-returns-in_default : goal.put_ops-returns-in_default
put_ops-returns-in_default t c =
    left_nothing c.args.mint.now c.args.spot c.args.ops.now c.as_slice-op-items.result.now c.loop-op.op-index c.op-item.result
    c.in_ok-next.next (set_of c.args.set.now) (set_of c.loop-op.here) c.args.out.now c.loop-op.out c.put_op.new.out
    c.loop-op-test.true c.op-item.is c.in_default.is c.as_slice-op-items.ensures c.loop-op.invariant c.in_ok-next.ensures

pub put_ops-returns : goal.put_ops-returns
put_ops-returns t c =
    left_none c.args.mint.now c.args.spot c.args.ops.now c.as_slice-op-items.result.now c.loop-op.op-index c.loop-op.here
    (set_of c.args.set.now) c.args.out.now c.loop-op.out c.put_number.new.out (omega (arith, c.loop-op-test.false))
    c.as_slice-op-items.ensures c.loop-op.invariant c.in_ok-put_number.ensures

-- ---- operations

pub put_op-returns-in-Ensure : goal.put_op-returns-in-Ensure
put_op-returns-in-Ensure t c =
    seen_put c.args.mint.now c.args.spot c.args.op.now (ensure c.in-Ensure.field-0) (Some c.args.set.now) (set_of c.args.set.now)
    c.args.out.now c.args.out.now (ap op_seen c.in-Ensure.is ∙ seen-Ensure c.in-Ensure.field-0)
    (told_ensure c.args.mint.now c.args.spot c.in-Ensure.field-0 (set_of c.args.set.now) c.args.out.now)

pub put_op-returns-then-has_length_at : goal.put_op-returns-then-has_length_at
put_op-returns-then-has_length_at t c =
    let N = c.args.mint.now in
    let x = c.in-EnsureRow in
    seen_put N c.args.spot c.args.op.now (ensure_row x.path x.field-1 x.field-2) (Some c.args.set.now) (set_of c.args.set.now)
    c.args.out.now c.args.out.now (ap op_seen x.is ∙ seen-EnsureRow x.path x.field-1 x.field-2)
    (length_put N c.args.spot x.path x.field-1 x.field-2 c.spot_at.result c.args.set.now c.args.out.now
    (sym c.has_length_at.ensures ∙ c.if-has_length_at.true)
    (c.spot_at.ensures ∙ ap (λ (p : List ℕ). spot_at N p c.args.spot) c.as_slice.ensures))

pub put_op-returns-else-has_length_at : goal.put_op-returns-else-has_length_at
put_op-returns-else-has_length_at t c =
    let N = c.args.mint.now in
    let x = c.in-EnsureRow in
    seen_put N c.args.spot c.args.op.now (ensure_row x.path x.field-1 x.field-2) None (set_of c.args.set.now)
    c.args.out.now c.args.out.now (ap op_seen x.is ∙ seen-EnsureRow x.path x.field-1 x.field-2)
    (length_nothing N c.args.spot x.path x.field-1 x.field-2 c.spot_at.result (set_of c.args.set.now) c.args.out.now
    (sym c.has_length_at.ensures ∙ c.if-has_length_at.false)
    (c.spot_at.ensures ∙ ap (λ (p : List ℕ). spot_at N p c.args.spot) c.as_slice.ensures))

pub put_op-returns-in-Align : goal.put_op-returns-in-Align
put_op-returns-in-Align t c =
    let a = c.in-Align.a in
    if_seen_put c.args.mint.now c.args.spot c.args.op.now (align a) c.put_align.result (set_of c.args.set.now) c.args.out.now
    c.put_align.new.out (ap op_seen c.in-Align.is ∙ seen-Align a)
    (if_for c.args.mint.now c.args.spot (align a) c.put_align.result (set_of c.args.set.now) c.args.out.now c.put_align.new.out
    c.put_align.ensures)

pub put_op-returns-in-Chunk : goal.put_op-returns-in-Chunk
put_op-returns-in-Chunk t c =
    let x = c.in-Chunk in
    if_seen_put c.args.mint.now c.args.spot c.args.op.now (chunk x.size x.puts) c.put_chunk.result (set_of c.args.set.now)
    c.args.out.now c.put_chunk.new.out (ap op_seen x.is ∙ seen-Chunk x.size x.puts)
    (if_for c.args.mint.now c.args.spot (chunk x.size x.puts) c.put_chunk.result (set_of c.args.set.now) c.args.out.now
    c.put_chunk.new.out c.put_chunk.ensures)

pub put_op-returns-in-RowCopy : goal.put_op-returns-in-RowCopy
put_op-returns-in-RowCopy t c =
    let x = c.in-RowCopy in
    if_seen_put c.args.mint.now c.args.spot c.args.op.now (row_copy x.path) c.put_row.result (set_of c.args.set.now) c.args.out.now
    c.put_row.new.out (ap op_seen x.is ∙ seen-RowCopy x.path) c.put_row.ensures

pub put_op-returns-in-RowSwap : goal.put_op-returns-in-RowSwap
put_op-returns-in-RowSwap t c =
    let x = c.in-RowSwap in
    if_seen_put c.args.mint.now c.args.spot c.args.op.now (row_swap x.path) c.put_row-in-RowSwap.result (set_of c.args.set.now)
    c.args.out.now c.put_row-in-RowSwap.new.out (ap op_seen x.is ∙ seen-RowSwap x.path) c.put_row-in-RowSwap.ensures

pub put_op-returns-in-RowWide : goal.put_op-returns-in-RowWide
put_op-returns-in-RowWide t c =
    let x = c.in-RowWide in
    if_seen_put c.args.mint.now c.args.spot c.args.op.now (row_wide x.path x.order) c.put_wide.result (set_of c.args.set.now)
    c.args.out.now c.put_wide.new.out (ap op_seen x.is ∙ seen-RowWide x.path x.order) c.put_wide.ensures

pub put_op-returns-in-Some-behind : goal.put_op-returns-in-Some-behind
put_op-returns-in-Some-behind t c =
    let N = c.args.mint.now in
    let x = c.in-Each in
    seen_put N c.args.spot c.args.op.now (each x.path (code_seen x.body)) (Some c.closed-entry.result) (set_of c.args.set.now)
    c.args.out.now c.put_ops.new.out (ap op_seen x.is ∙ seen-Each x.path x.body)
    (each_at N c.args.spot x.path x.body c.element_at-inner.result c.in_ok-behind-in-Each.behind c.closed-entry.result
    c.in-Some-behind.field-0 c.args.set.now c.turn_of.result c.args.out.now c.put_over.new.out c.put_ops.new.out c.in-Some-behind.is
    (c.element_at-inner.ensures ∙ ap (λ (s : Spot). element (node_of N s))
    (c.spot_at-in-Each.ensures ∙ ap (λ (p : List ℕ). spot_at N p c.args.spot) c.as_slice-in-Each.ensures))
    c.turn_of.ensures c.closed-entry.ensures c.in_ok-put_over-in-Each.ensures c.in_ok-behind-in-Each.ensures)

pub put_op-returns-in-None : goal.put_op-returns-in-None
put_op-returns-in-None t c =
    let N = c.args.mint.now in
    let x = c.in-Each in
    seen_put N c.args.spot c.args.op.now (each x.path (code_seen x.body)) None (set_of c.args.set.now)
    c.args.out.now c.put_ops.new.out (ap op_seen x.is ∙ seen-Each x.path x.body)
    (each_not_at N c.args.spot x.path x.body c.element_at-inner.result c.in_ok-behind-in-Each.behind c.closed-entry.result
    c.args.set.now c.turn_of.result c.args.out.now c.put_over.new.out c.put_ops.new.out c.in-None.is
    (c.element_at-inner.ensures ∙ ap (λ (s : Spot). element (node_of N s))
    (c.spot_at-in-Each.ensures ∙ ap (λ (p : List ℕ). spot_at N p c.args.spot) c.as_slice-in-Each.ensures))
    c.turn_of.ensures c.closed-entry.ensures c.in_ok-put_over-in-Each.ensures c.in_ok-behind-in-Each.ensures)

pub put_op-returns-in_ok-put_over-in-Switch : goal.put_op-returns-in_ok-put_over-in-Switch
put_op-returns-in_ok-put_over-in-Switch t c =
    let N = c.args.mint.now in
    let x = c.in-Switch in
    let cs = cases_seen x.cases x.last in
    if_seen_put N c.args.spot c.args.op.now (switch x.path cs) c.put_ways.result (set_of c.args.set.now) c.args.out.now
    c.put_ways.new.out (ap op_seen x.is ∙ seen-Switch x.path x.cases x.last)
    (if_switch N c.args.spot x.path cs c.spot_at-place.result c.put_ways.result (set_of c.args.set.now) c.args.out.now
    c.put_over-in-Switch.new.out c.put_ways.new.out
    (c.spot_at-place.ensures ∙ ap (λ (p : List ℕ). spot_at N p c.args.spot) c.as_slice-in-Switch.ensures)
    c.in_ok-put_over-in-Switch.ensures (rw c.deref.ensures at c.put_ways.ensures))

pub put_op-returns-in-Some-there : goal.put_op-returns-in-Some-there
put_op-returns-in-Some-there t c =
    let N = c.args.mint.now in
    let x = c.in-Some in
    seen_put N c.args.spot c.args.op.now (if_there x.path (code_seen x.body)) (Some c.sum.result) (set_of c.args.set.now)
    c.args.out.now c.put_ops-in-Some.new.out (ap op_seen x.is ∙ seen-Some x.path x.body)
    (some_at N c.args.spot x.path x.body c.present_at-inner.result c.in_ok-there-in-Some.there c.in-Some-there.behind c.sum.result
    (set_of c.args.set.now) c.args.out.now c.put_over-in-Some.new.out c.put_ops-in-Some.new.out c.in-Some-there.is
    (c.present_at-inner.ensures ∙ ap (λ (s : Spot). present (node_of N s))
    (c.spot_at-in-Some.ensures ∙ ap (λ (p : List ℕ). spot_at N p c.args.spot) c.as_slice-in-Some.ensures))
    c.sum.ensures c.in_ok-put_over-in-Some.ensures c.in_ok-there-in-Some.ensures)

pub put_op-returns-in-None-there : goal.put_op-returns-in-None-there
put_op-returns-in-None-there t c =
    let N = c.args.mint.now in
    let x = c.in-Some in
    seen_put N c.args.spot c.args.op.now (if_there x.path (code_seen x.body)) None (set_of c.args.set.now)
    c.args.out.now c.put_ops-in-Some.new.out (ap op_seen x.is ∙ seen-Some x.path x.body)
    (some_not_at N c.args.spot x.path x.body c.present_at-inner.result c.in_ok-there-in-Some.there
    (set_of c.args.set.now) c.args.out.now c.put_over-in-Some.new.out c.put_ops-in-Some.new.out c.in-None-there.is
    (c.present_at-inner.ensures ∙ ap (λ (s : Spot). present (node_of N s))
    (c.spot_at-in-Some.ensures ∙ ap (λ (p : List ℕ). spot_at N p c.args.spot) c.as_slice-in-Some.ensures))
    c.in_ok-put_over-in-Some.ensures c.in_ok-there-in-Some.ensures)

pub put_op-returns-in-Call : goal.put_op-returns-in-Call
put_op-returns-in-Call t c =
    let x = c.in-Call in
    if_seen_put c.args.mint.now c.args.spot c.args.op.now (call x.k x.path) c.put_call.result (set_of c.args.set.now) c.args.out.now
    c.put_call.new.out (ap op_seen x.is ∙ seen-Call x.k x.path)
    (if_for_all c.args.mint.now c.args.spot (call x.k x.path) c.put_call.result (set_of c.args.set.now) c.args.out.now
    c.put_call.new.out c.put_call.ensures)

pub put_op-returns-in_ok-put_patch-in-Patch : goal.put_op-returns-in_ok-put_patch-in-Patch
put_op-returns-in_ok-put_patch-in-Patch t c =
    let x = c.in-Patch in
    seen_put c.args.mint.now c.args.spot c.args.op.now (patch x.at x.sub x.order) (Some c.args.set.now) (set_of c.args.set.now)
    c.args.out.now c.put_patch.new.out (ap op_seen x.is ∙ seen-Patch x.at x.sub x.order)
    (told_patch c.args.mint.now c.args.spot x.at x.sub x.order (set_of c.args.set.now) c.args.out.now c.put_patch.new.out
    c.in_ok-put_patch-in-Patch.ensures)

-- ---- bodies of a switch

pub put_ways-loop-case-init : goal.put_ways-loop-case-init
put_ways-loop-case-init t c =
    ways_all c.args.mint.now (node_of c.args.mint.now c.args.place) (cases_seen c.args.cases.now c.args.last.now)
    (cases_seen c.as_slice-case-items.result.now c.args.last.now) (set_of c.args.set.now) c.none-total.result c.args.out.now
    c.none-total.ensures

pub put_ways-loop-case-preserved : goal.put_ways-loop-case-preserved
put_ways-loop-case-preserved t c =
    let N = c.args.mint.now in
    ways_one N (node_of N c.args.place) (cases_seen c.args.cases.now c.args.last.now)
    (cases_seen c.as_slice-case-items.result.now c.args.last.now) c.as_slice-case-items.result.now c.args.last.now
    c.loop-case.case-index c.case-item.result c.arm_spot_at-spot.result c.in_ok-next.next c.in-Some.behind (set_of c.args.set.now)
    c.loop-case.total c.sum-total.result c.args.out.now c.loop-case.out c.put_way.new.out c.put_ops.new.out
    c.loop-case-test.true c.case-item.is c.arm_spot_at-spot.ensures c.in-Some.is c.loop-case.invariant c.in_ok-put_way.ensures
    c.in_ok-next.ensures c.sum-total.ensures

pub put_ways-returns-in_default : goal.put_ways-returns-in_default
put_ways-returns-in_default t c =
    let N = c.args.mint.now in
    let all = cases_seen c.args.cases.now c.args.last.now in
    no_ways N c.args.place all (set_of c.args.set.now) c.args.out.now c.put_ops.new.out
    (ways_nothing N (node_of N c.args.place) all c.as_slice-case-items.result.now c.args.cases.now c.args.last.now
    c.loop-case.case-index c.case-item.result c.arm_spot_at-spot.result c.in_ok-next.next (set_of c.args.set.now)
    (set_of c.loop-case.total) c.args.out.now c.loop-case.out c.put_way.new.out c.put_ops.new.out c.loop-case-test.true c.case-item.is
    c.arm_spot_at-spot.ensures c.in_default.is c.as_slice-case-items.ensures c.loop-case.invariant c.in_ok-put_way.ensures
    c.in_ok-next.ensures)

pub put_ways-returns-in-Some-rest : goal.put_ways-returns-in-Some-rest
put_ways-returns-in-Some-rest t c =
    let N = c.args.mint.now in
    let all = cases_seen c.args.cases.now c.args.last.now in
    ways_last N c.args.place all c.as_slice-case-items.result.now c.args.cases.now c.args.last.now c.loop-case.case-index
    c.deref.result.now c.rest_spot_at-spot.result c.in_ok-rest-in-Some-last.rest c.in-Some-rest.behind (set_of c.args.set.now)
    c.loop-case.total c.sum.result c.args.out.now c.loop-case.out c.put_number.new.out c.put_ops-in-Some-last.new.out
    (omega (arith, c.loop-case-test.false)) c.as_slice-case-items.ensures (c.in-Some-last.is ∙ ap Some (sym c.deref.ensures))
    (c.rest_spot_at-spot.ensures c.args.last.now) c.in-Some-rest.is refl c.loop-case.invariant c.in_ok-put_number-in-Some-last.ensures
    c.in_ok-rest-in-Some-last.ensures c.sum.ensures

pub put_ways-returns-in-None-rest : goal.put_ways-returns-in-None-rest
put_ways-returns-in-None-rest t c =
    let N = c.args.mint.now in
    let all = cases_seen c.args.cases.now c.args.last.now in
    ways_last_nothing N c.args.place all c.as_slice-case-items.result.now c.args.cases.now c.args.last.now c.loop-case.case-index
    c.deref.result.now c.rest_spot_at-spot.result c.in_ok-rest-in-Some-last.rest (set_of c.args.set.now) (set_of c.loop-case.total)
    c.args.out.now c.loop-case.out c.put_number.new.out c.put_ops-in-Some-last.new.out
    (omega (arith, c.loop-case-test.false)) c.as_slice-case-items.ensures (c.in-Some-last.is ∙ ap Some (sym c.deref.ensures))
    (c.rest_spot_at-spot.ensures c.args.last.now) c.in-None-rest.is refl c.loop-case.invariant
    c.in_ok-put_number-in-Some-last.ensures c.in_ok-rest-in-Some-last.ensures

pub put_ways-returns-in_ok-put_number-in-None : goal.put_ways-returns-in_ok-put_number-in-None
put_ways-returns-in_ok-put_number-in-None t c =
    let N = c.args.mint.now in
    let all = cases_seen c.args.cases.now c.args.last.now in
    ways_end N c.args.place all c.as_slice-case-items.result.now c.args.cases.now c.args.last.now c.loop-case.case-index
    c.none.result (set_of c.args.set.now) c.loop-case.total c.sum-in-None.result c.args.out.now c.loop-case.out
    c.put_number-in-None.new.out
    (omega (arith, c.loop-case-test.false)) c.as_slice-case-items.ensures c.in-None.is refl c.loop-case.invariant
    c.in_ok-put_number-in-None.ensures c.none.ensures c.sum-in-None.ensures
