use Rattle.std.proofs.Common.{◌≡◌, length, map, replicate, None, sym, ap, ◌∙◌, refl, arith}
use Rattle.std.proofs.lemmas.List.{length-replicate}
use Rattle.cast_stub.specs.Block.{code_seen}
use Rattle.stub_flat.specs.Flat.{Spots, all_noted, calls_of_known}
use Rattle.stub_compare.proofs.CompareNoted.{rounds_all, rounds_nothing, round_more, round_nothing, round_same, rounds_done}
use Rattle.stub_compare.proofs.ComparePuts.{found_length, found_none, found_some}
use Rattle.stub_compare.proofs.compare_calls.find_spots.Goals as goal

pub returns-then-not-note_ops-clause-found : goal.returns-then-not-note_ops-clause-found
returns-then-not-note_ops-clause-found c =
    rounds_nothing _ _ c.args.code.now.ops c.args.code.now.subs _ _ _ c.if-not-note_ops.true
    (c.in_ok-nodes.ensures ∙ ap (λ n. replicate n None) c.len.ensures) c.note_ops.ensures.noted

pub loop-init : goal.loop-init
loop-init c =
    let many : length c.in_ok-nodes.nodes.items ≡ length c.args.code.now.subs =
    ap length c.in_ok-nodes.ensures ∙ length-replicate c.len.result None ∙ c.len.ensures in
    record {
      left = rounds_all _ _ c.args.code.now.ops c.args.code.now.subs (length c.args.code.now.subs) _ _ _ refl c.if-not-note_ops.false
          (c.in_ok-nodes.ensures ∙ ap (λ n. replicate n None) c.len.ensures) c.note_ops.ensures.noted;
      size = omega (arith, c.note_ops.ensures.len, c.in_ok-nodes.nodes.ok.0, many);
    }

pub loop-preserved : goal.loop-preserved
loop-preserved c =
    let bs = map code_seen c.args.code.now.subs in
    let round = c.in_ok-round.ensures.found
    ∙ ap (λ (l : Spots). all_noted (calls_of_known c.args.mint.now bs l) l) c.as_slice.ensures.value in
    record {
      left = round_more _ _ c.args.code.now.ops c.args.code.now.subs (length c.args.code.now.subs) c.loop.counter c.loop.nodes.items _
          (omega (arith, c.len-end.ensures, c.loop-test.true)) c.loop.invariant.left
          (found_some _ c.in-Some.next _ _ c.in-Some.is round);
      size = found_length _ _ _ c.in-Some.is c.in_ok-round.ensures.len;
    }

pub returns-in_default-clause-found : goal.returns-in_default-clause-found
returns-in_default-clause-found c =
    let bs = map code_seen c.args.code.now.subs in
    round_nothing _ _ c.args.code.now.ops c.args.code.now.subs (length c.args.code.now.subs) c.loop.counter c.loop.nodes.items
    (omega (arith, c.len-end.ensures, c.loop-test.true)) c.loop.invariant.left
    (found_none _ _ _ c.in_default.is (c.in_ok-round.ensures.found
    ∙ ap (λ (l : Spots). all_noted (calls_of_known c.args.mint.now bs l) l) c.as_slice.ensures.value))

pub returns-then-are_same-clause-found : goal.returns-then-are_same-clause-found
returns-then-are_same-clause-found c =
    let bs = map code_seen c.args.code.now.subs in
    round_same _ _ c.args.code.now.ops c.args.code.now.subs (length c.args.code.now.subs) c.loop.counter c.loop.nodes.items _
    c.loop.invariant.left
    (found_some _ c.in-Some.next _ _ c.in-Some.is (c.in_ok-round.ensures.found
    ∙ ap (λ (l : Spots). all_noted (calls_of_known c.args.mint.now bs l) l) c.as_slice.ensures.value))
    (sym c.as_slice-in-loop.ensures.value ∙ c.are_same.ensures c.if-are_same.true ∙ c.as_slice-in-loop-2.ensures.value)

pub returns-clause-found : goal.returns-clause-found
returns-clause-found c =
    rounds_done _ _ c.args.code.now.ops c.args.code.now.subs (length c.args.code.now.subs) c.loop.counter _
    (omega (arith, c.len-end.ensures, c.loop-test.false)) c.loop.invariant.left
