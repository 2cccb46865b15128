use Rattle.std.proofs.Common.{◌≡◌, ℕ, List, Bool, true, Option, Some, None, option_map, if◌then◌else◌, ap, ◌∙◌, sym, subst, refl, arith}
use Rattle.cast_stub.specs.Parts.{on_some}
use Rattle.cast_stub.specs.Steps.{is_width}
use Rattle.cast_stub.specs.Block.{ensure, ensure_row, align, chunk, row_copy, row_swap, row_wide, each, switch, if_there, call, patch, op_seen, code_seen, cases_seen}
use Rattle.cast_stub.proofs.Pieces.{seen-Ensure, seen-EnsureRow, seen-Align, seen-Chunk, seen-RowCopy, seen-RowSwap, seen-RowWide, seen-Each, seen-Switch, seen-Some, seen-Call, seen-Patch}
use Rattle.stub_flat.specs.Places.{node_of, spot_at, present}
use Rattle.stub_flat.specs.Residues.{every}
use Rattle.stub_cover.specs.Rooms.{Rooms, least, on, raised, took, padded, only_room}
use Rattle.stub_cover.specs.Covers.{run, run_ways}
use Rattle.stub_rooms.specs.RoomsShown.{Follows, spread}
use Rattle.stub_places.specs.Sets.{each_of, set_of}
use Rattle.stub_rooms.specs.CoversLap.{nodes, turn_of, reach_of, is_plain_lap}
use Rattle.stub_rooms.specs.CoversStanding.{credit, loop_of, maybe_loop}
use Rattle.stub_rooms.proofs.RoomsEights.{took_follows}
use Rattle.stub_rooms.proofs.TurnsJoined.{made_none, made_more, came_back, stopped, all_made, is_back, is_farther, turn_is}
use Rattle.stub_rooms.proofs.CoversGoing.{maybe_none, steps_by, steps_seen, raised_follows, bare_follows, kept_follows, if_there_same, run_all, run_one, run_refused, run_none, ways_run, ways_run_one, ways_refused, ways_run_end, ways_run_seen, bare_given, bare_refused, bounded_none, bounded_if, suffices_more, suffices_lacks, suffices_all, unmarked, marked, some_shown, lap_octets, lap_body}
use Rattle.stub_rooms.proofs.CoversLooped.{there_joined, ways_last_joined, by_free, by_bounded, by_bare, free_none, free_ensures, free_lacks, free_is}
use Rattle.stub_rooms.proofs.covers_run.+run.Goals as goal

-- ---- blocks

pub run-loop-op-init : goal.run-loop-op-init
run-loop-op-init t c = run_all _ _ _ _ _ refl refl

pub run-loop-op-preserved : goal.run-loop-op-preserved
run-loop-op-preserved t c =
    run_one _ _ _ c.as_slice-op-items.result.now c.loop-op.op-index c.op-item.result _ _ c.loop-op-test.true c.op-item.is
    c.in_ok-inner.ensures.mint c.loop-op.invariant _ _ c.if-not-goes.false c.in_ok-goes.ensures

pub run-returns-then-not-goes : goal.run-returns-then-not-goes
run-returns-then-not-goes t c =
    run_refused _ _ _ c.as_slice-op-items.result.now c.loop-op.op-index c.op-item.result _ _ c.loop-op-test.true c.op-item.is
    c.in_ok-inner.ensures.mint c.loop-op.invariant c.args.ops.now _ _ c.if-not-goes.true c.in_ok-goes.ensures c.as_slice-op-items.ensures

pub run-returns : goal.run-returns
run-returns t c =
    run_none _ _ c.args.ops.now c.as_slice-op-items.result.now c.loop-op.op-index _ _ (omega (arith, c.loop-op-test.false))
    c.as_slice-op-items.ensures c.loop-op.invariant

-- ---- operations

pub run_op-returns-in-Ensure : goal.run_op-returns-in-Ensure
run_op-returns-in-Ensure t c =
    steps_by _ _ c.args.op.now (ensure c.in-Ensure.n) (λ R. Some (raised c.in-Ensure.n R)) None _ _ _ _
    (ap op_seen c.in-Ensure.is ∙ seen-Ensure c.in-Ensure.n) (λ r R. refl) (raised_follows c.in-Ensure.n _ _ c.raised-rooms.ensures)
    c.go_on_bare.ensures

pub run_op-returns-in-EnsureRow : goal.run_op-returns-in-EnsureRow
run_op-returns-in-EnsureRow t c =
    let x = c.in-EnsureRow in
    steps_seen _ _ c.args.op.now (ensure_row x.path x.unit x.extra) _ _ _ (ap op_seen x.is ∙ seen-EnsureRow x.path x.unit x.extra)
    c.run_ensure_row.ensures

pub run_op-returns-in-Patch : goal.run_op-returns-in-Patch
run_op-returns-in-Patch t c =
    let x = c.in-Patch in
    steps_by _ _ c.args.op.now (patch x.field-0 x.field-1 x.field-2) (λ R. Some R) (credit c.args.state.now) _ _ _ _
    (ap op_seen x.is ∙ seen-Patch x.field-0 x.field-1 x.field-2) (λ r R. refl) (kept_follows _) (refl, (refl, refl))

pub run_op-returns-in-Align : goal.run_op-returns-in-Align
run_op-returns-in-Align t c =
    steps_by _ _ c.args.op.now (align c.in-Align.a) (λ R. if is_width c.in-Align.a then padded c.in-Align.a R else Some R)
    (credit c.args.state.now) _ _ _ _ (ap op_seen c.in-Align.is ∙ seen-Align c.in-Align.a) (λ r R. refl) c.run_align-rooms.ensures
    c.go_on.ensures

pub run_op-returns-in-Chunk : goal.run_op-returns-in-Chunk
run_op-returns-in-Chunk t c =
    steps_by _ _ c.args.op.now (chunk c.in-Chunk.size c.in-Chunk.field-1) (took c.in-Chunk.size) (credit c.args.state.now) _ _ _ _
    (ap op_seen c.in-Chunk.is ∙ seen-Chunk c.in-Chunk.size c.in-Chunk.field-1) (λ r R. refl)
    (took_follows c.in-Chunk.size _ _ c.took-rooms.ensures) c.go_on-in-Chunk.ensures

pub run_op-returns-in_ok-rooms-in-RowCopy : goal.run_op-returns-in_ok-rooms-in-RowCopy
run_op-returns-in_ok-rooms-in-RowCopy t c =
    let N = nodes c.args.walk.now in
    let p = c.in-RowCopy.path in
    steps_by _ _ c.args.op.now (row_copy p) (maybe_loop N c.image_loop-looping.result) None _ _ _ _
    (ap op_seen c.in-RowCopy.is ∙ seen-RowCopy p)
    (λ r R. ap (λ (o : Option Rooms). on_some o (run N c.args.spot r None)) (sym (c.image_loop-looping.ensures R)))
    c.in_ok-rooms-in-RowCopy.ensures c.go_on_bare-in-RowCopy.ensures

pub run_op-returns-in_ok-rooms-in-RowSwap : goal.run_op-returns-in_ok-rooms-in-RowSwap
run_op-returns-in_ok-rooms-in-RowSwap t c =
    let N = nodes c.args.walk.now in
    let p = c.in-RowSwap.path in
    steps_by _ _ c.args.op.now (row_swap p) (maybe_loop N c.image_loop-looping-in-RowSwap.result) None _ _ _ _
    (ap op_seen c.in-RowSwap.is ∙ seen-RowSwap p)
    (λ r R. ap (λ (o : Option Rooms). on_some o (run N c.args.spot r None)) (sym (c.image_loop-looping-in-RowSwap.ensures R)))
    c.in_ok-rooms-in-RowSwap.ensures c.go_on_bare-in-RowSwap.ensures

pub run_op-returns-in_ok-rooms-in-RowWide : goal.run_op-returns-in_ok-rooms-in-RowWide
run_op-returns-in_ok-rooms-in-RowWide t c =
    let N = nodes c.args.walk.now in
    let p = c.in-RowWide.path in
    let o = c.in-RowWide.field-1 in
    steps_by _ _ c.args.op.now (row_wide p o) (maybe_loop N c.wide_loop-looping.result) None _ _ _ _
    (ap op_seen c.in-RowWide.is ∙ seen-RowWide p o)
    (λ r R. ap (λ (o : Option Rooms). on_some o (run N c.args.spot r None)) (sym (c.wide_loop-looping.ensures R)))
    c.in_ok-rooms-in-RowWide.ensures c.go_on_bare-in-RowWide.ensures

pub run_op-returns-in_ok-rooms-in-Each : goal.run_op-returns-in_ok-rooms-in-Each
run_op-returns-in_ok-rooms-in-Each t c =
    let N = nodes c.args.walk.now in
    let p = c.in-Each.path in
    steps_by _ _ c.args.op.now (each p (code_seen c.in-Each.body)) (loop_of N c.each_loop-looping.result) None _ _ _ _
    (ap op_seen c.in-Each.is ∙ seen-Each p c.in-Each.body)
    (λ r R. ap (λ (o : Option Rooms). on_some o (run N c.args.spot r None)) (sym (c.each_loop-looping.ensures R)))
    c.in_ok-rooms-in-Each.ensures c.go_on_bare-in-Each.ensures

pub run_op-returns-in_ok-rooms-in-Switch : goal.run_op-returns-in_ok-rooms-in-Switch
run_op-returns-in_ok-rooms-in-Switch t c =
    let N = nodes c.args.walk.now in
    let x = c.in-Switch in
    let cs = cases_seen x.cases x.last in
    let n = node_of N (spot_at N x.path c.args.spot) in
    steps_by _ _ c.args.op.now (switch x.path cs) (run_ways N n cs cs) None _ _ _ _ (ap op_seen x.is ∙ seen-Switch x.path x.cases x.last)
    (λ r R. refl)
    (subst (λ s. Follows (run_ways N (node_of N s) cs cs) c.args.state.now.rooms c.in_ok-rooms-in-Switch.rooms) c.place_at-place.ensures
    (rw c.deref.ensures at c.in_ok-rooms-in-Switch.ensures))
    c.go_on_bare-in-Switch.ensures

pub run_op-returns-in_ok-rooms-in-Some : goal.run_op-returns-in_ok-rooms-in-Some
run_op-returns-in_ok-rooms-in-Some t c =
    let N = nodes c.args.walk.now in
    let x = c.in-Some in
    let b = code_seen x.body in
    let s = present (node_of N (spot_at N x.path c.args.spot)) in
    steps_by _ _ c.args.op.now (if_there x.path b) (λ R. option_map (least R) (run N s b None R)) None _ _ _ _
    (ap op_seen x.is ∙ seen-Some x.path x.body)
    (λ r R. if_there_same R (run N s b None R) (run N c.args.spot r None))
    (subst (λ s. Follows (λ R. option_map (least R) (run N s b None R)) c.args.state.now.rooms c.in_ok-rooms-in-Some.rooms)
    (c.present_at-inner.ensures ∙ ap (λ s. present (node_of N s)) c.place_at.ensures) c.in_ok-rooms-in-Some.ensures)
    c.go_on_bare-in-Some.ensures

pub run_op-returns-in-Call : goal.run_op-returns-in-Call
run_op-returns-in-Call t c =
    let x = c.in-Call in
    steps_by _ _ c.args.op.now (call x.field-0 x.field-1) (λ R. Some (on every 0)) None _ _ _ _
    (ap op_seen x.is ∙ seen-Call x.field-0 x.field-1) (λ r R. refl)
    (bare_follows _ _ (c.bare.ensures ∙ ap (λ (l : List Bool). each_of (on (set_of l) 0)) c.every.ensures)) c.go_on_bare-in-Call.ensures

-- ---- bodies of a switch, and what may be there

pub run_ways-loop-case-init : goal.run_ways-loop-case-init
run_ways-loop-case-init t c = ways_run _ _ _ _ _ _ c.no_rooms-low.ensures

pub run_ways-loop-case-preserved : goal.run_ways-loop-case-preserved
run_ways-loop-case-preserved t c =
    ways_run_one _ _ _ _ c.as_slice-case-items.result.now c.args.last.now c.loop-case.case-index _ _ c.loop-case.invariant
    c.case-item.result _ _ _ c.loop-case-test.true c.case-item.is c.arm_spot_at-spot.ensures
    (turn_is _ _ _ _ c.in-Some.is c.in_ok-end.ensures) c.least-low.ensures

pub run_ways-returns-in-None : goal.run_ways-returns-in-None
run_ways-returns-in-None t c =
    ways_run_seen _ _ _ c.as_slice-case-items.result.now c.args.cases.now c.args.last.now _ _ c.as_slice-case-items.ensures
    (ways_refused _ _ _ _ c.as_slice-case-items.result.now c.args.last.now c.loop-case.case-index _ _ c.loop-case.invariant
    c.case-item.result _ c.loop-case-test.true c.case-item.is c.arm_spot_at-spot.ensures
    (turn_is _ _ _ _ c.in-None.is c.in_ok-end.ensures))

pub run_ways-returns-in_ok-end-in-Some-last : goal.run_ways-returns-in_ok-end-in-Some-last
run_ways-returns-in_ok-end-in-Some-last t c =
    ways_run_seen _ _ _ c.as_slice-case-items.result.now c.args.cases.now c.args.last.now _ _ c.as_slice-case-items.ensures
    (ways_last_joined _ _ _ _ c.as_slice-case-items.result.now c.args.last.now c.loop-case.case-index _ _ c.deref.result.now _ _ _
    c.loop-case.invariant (omega (arith, c.loop-case-test.false)) (c.in-Some-last.is ∙ ap Some (sym c.deref.ensures))
    (c.rest_spot_at-spot.ensures c.args.last.now) c.in_ok-end-in-Some-last.ensures c.joined_last.ensures)

pub run_ways-returns-in-None-last : goal.run_ways-returns-in-None-last
run_ways-returns-in-None-last t c =
    ways_run_seen _ _ _ c.as_slice-case-items.result.now c.args.cases.now c.args.last.now _ _ c.as_slice-case-items.ensures
    (ways_run_end _ _ _ _ c.as_slice-case-items.result.now c.args.last.now c.loop-case.case-index _ _ c.loop-case.invariant _ _
    (omega (arith, c.loop-case-test.false)) c.in-None-last.is c.no_rooms.ensures c.least.ensures)

pub run_some-returns : goal.run_some-returns
run_some-returns t c = there_joined _ _ _ _ c.in_ok-end.ensures c.joined_last.ensures

-- ---- loops

pub run_loop-returns-in-None : goal.run_loop-returns-in-None
run_loop-returns-in-None t c = maybe_none _ _ _ c.in-None.is

pub run_loop-returns-then-is_some : goal.run_loop-returns-then-is_some
run_loop-returns-then-is_some t c =
    by_free _ _ c.in-Some.looping _ c.in-Some.is _ (sym c.if-is_some.ensures) c.in_ok-free.ensures

pub run_loop-returns-then-is_some-2 : goal.run_loop-returns-then-is_some-2
run_loop-returns-then-is_some-2 t c =
    by_bounded _ _ c.in-Some.looping _ c.in-Some.is _ _ (sym c.if-is_some.ensures) c.in_ok-free.ensures
    (sym c.if-is_some-2.ensures) c.in_ok-bounded.ensures

pub run_loop-returns : goal.run_loop-returns
run_loop-returns t c =
    by_bare _ _ c.in-Some.looping _ c.in-Some.is _ _ _ (sym c.if-is_some.ensures) c.in_ok-free.ensures
    (sym c.if-is_some-2.ensures) c.in_ok-bounded.ensures c.run_bare.ensures

pub run_free-returns-in-None : goal.run_free-returns-in-None
run_free-returns-in-None t c =
    let N = nodes c.args.walk.now in
    let f = turn_of N c.args.lap in
    let reach = λ (R : Rooms). reach_of N c.args.lap R in
    let plain = is_plain_lap c.args.lap in
    free_none f reach plain plain c.args.unit _ refl c.in-None.is

pub run_free-returns-then-not-plain : goal.run_free-returns-then-not-plain
run_free-returns-then-not-plain t c =
    let N = nodes c.args.walk.now in
    let f = turn_of N c.args.lap in
    let reach = λ (R : Rooms). reach_of N c.args.lap R in
    let plain = is_plain_lap c.args.lap in
    free_ensures f reach plain _ c.args.unit _ c.in_ok-plain.ensures c.in-Some.unit c.in-Some.is c.if-not-plain.true

pub run_free-returns-then-not-enough : goal.run_free-returns-then-not-enough
run_free-returns-then-not-enough t c =
    let N = nodes c.args.walk.now in
    let f = turn_of N c.args.lap in
    let reach = λ (R : Rooms). reach_of N c.args.lap R in
    let plain = is_plain_lap c.args.lap in
    free_lacks f reach plain _ c.args.unit _ c.in_ok-plain.ensures c.in-Some.unit _ _ c.in-Some.is c.if-not-plain.false
    c.in_ok-reach.ensures c.in_ok-enough.ensures c.if-not-enough.true

pub run_free-returns : goal.run_free-returns
run_free-returns t c =
    let N = nodes c.args.walk.now in
    let f = turn_of N c.args.lap in
    let reach = λ (R : Rooms). reach_of N c.args.lap R in
    let plain = is_plain_lap c.args.lap in
    free_is f reach plain _ c.args.unit _ c.in_ok-plain.ensures c.in-Some.unit _ _ _ c.in-Some.is c.if-not-plain.false
    c.in_ok-reach.ensures c.in_ok-enough.ensures c.if-not-enough.false
    (c.spread.ensures ∙ ap (λ (z : Option ℕ). each_of (spread (set_of c.in_ok-reach.reach) z)) c.lowest.ensures)

pub run_bare-returns-in-Some : goal.run_bare-returns-in-Some
run_bare-returns-in-Some t c =
    bare_given _ _ true _ c.in_ok-reach.reach _ _ c.in_ok-reach.ensures c.bare-start.ensures
    (turn_is _ _ _ _ c.in-Some.is c.in_ok-end.ensures)

pub run_bare-returns-in-None : goal.run_bare-returns-in-None
run_bare-returns-in-None t c =
    bare_refused _ _ true _ c.in_ok-reach.reach _ c.in_ok-reach.ensures c.bare-start.ensures
    (turn_is _ _ _ _ c.in-None.is c.in_ok-end.ensures)

pub run_lap-returns-in_ok-spend-in-Octets : goal.run_lap-returns-in_ok-spend-in-Octets
run_lap-returns-in_ok-spend-in-Octets t c = lap_octets _ c.args.lap _ _ _ c.in-Octets.is (took_follows c.in-Octets.width _ _ c.took.ensures)

pub run_lap-returns-in-Body : goal.run_lap-returns-in-Body
run_lap-returns-in-Body t c = lap_body _ c.args.lap _ _ _ c.in-Body.is c.run.ensures

pub run_bounded-returns-in-Some : goal.run_bounded-returns-in-Some
run_bounded-returns-in-Some t c = bounded_if _ _ c.in-Some.n _ _ (sym c.few.ensures ∙ c.in-Some.is) c.turns.ensures

pub run_bounded-returns-in-None : goal.run_bounded-returns-in-None
run_bounded-returns-in-None t c = bounded_none _ _ _ (sym c.few.ensures ∙ c.in-None.is)

pub suffices_at-returns-then-not-marked : goal.suffices_at-returns-then-not-marked
suffices_at-returns-then-not-marked t c = unmarked _ _ _ c.contains-marked.ensures c.if-not-marked.true

pub suffices_at-returns : goal.suffices_at-returns
suffices_at-returns t c =
    let f = turn_of (nodes c.args.walk.now) c.args.lap in
    marked _ _ _ _ c.contains-marked.ensures c.if-not-marked.false
    (c.is_some.ensures ∙ some_shown f (only_room c.args.r c.args.unit) _ _
    (c.only_room-start.ensures ∙ ap (λ n. each_of (only_room c.args.r n)) c.from.ensures) c.in_ok-end.ensures)

pub suffices-loop-r-preserved : goal.suffices-loop-r-preserved
suffices-loop-r-preserved t c =
    let f = turn_of (nodes c.args.walk.now) c.args.lap in
    suffices_more f c.args.unit (set_of c.args.marks.now) c.loop-r.r _ c.loop-r.invariant c.in_ok-enough.ensures
    c.if-not-enough.false

pub suffices-returns-then-not-enough : goal.suffices-returns-then-not-enough
suffices-returns-then-not-enough t c =
    let f = turn_of (nodes c.args.walk.now) c.args.lap in
    suffices_lacks f c.args.unit (set_of c.args.marks.now) c.loop-r.r _ c.loop-r-test.true c.in_ok-enough.ensures
    c.if-not-enough.true

pub suffices-returns : goal.suffices-returns
suffices-returns t c =
    let all : c.loop-r.r ≡ 8 = omega (arith, c.loop-r-test.false) in
    let f = turn_of (nodes c.args.walk.now) c.args.lap in
    suffices_all f c.args.unit (set_of c.args.marks.now) c.loop-r.r c.loop-r.invariant all

pub turns-loop-init : goal.turns-loop-init
turns-loop-init t c = made_none _ _ _ c.turning_from-turning.ensures

pub turns-loop-preserved : goal.turns-loop-preserved
turns-loop-preserved t c =
    made_more _ _ c.loop.counter _ c.loop.invariant c.in-Some.next (turn_is _ _ _ _ c.in-Some.is c.in_ok-end.ensures) _
    (is_farther _ _ _ _ c.if-back.false c.turn_on-back.ensures)

pub turns-returns-then-back : goal.turns-returns-then-back
turns-returns-then-back t c =
    came_back _ _ c.loop.counter _ c.loop.invariant c.in-Some.next (turn_is _ _ _ _ c.in-Some.is c.in_ok-end.ensures) _ c.args.most
    (is_back _ _ _ _ c.if-back.true c.turn_on-back.ensures) c.loop-test.true

pub turns-returns-in-None : goal.turns-returns-in-None
turns-returns-in-None t c =
    stopped _ _ c.loop.counter c.args.most _ c.loop.invariant c.loop-test.true (turn_is _ _ _ _ c.in-None.is c.in_ok-end.ensures)

pub turns-returns : goal.turns-returns
turns-returns t c =
    turn_is _ _ _ _ (ap Some (sym c.least.ensures))
    (all_made _ _ c.loop.counter c.args.most _ c.loop.invariant (omega (arith, c.loop-test.false)))

pub turns-turn_on-back-requires : goal.turns-turn_on-back-requires
turns-turn_on-back-requires t c = omega (arith, c.loop.invariant.since, c.loop-test.true)
