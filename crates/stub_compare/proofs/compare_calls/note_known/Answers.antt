use Rattle.std.proofs.Common.{◌+◌, ◌<◌, false, true, [], ◌++◌, length, map, drop, get_or, None, ap, refl, ◌∙◌, arith}
use Rattle.cast_stub.specs.Block.{code_seen}
use Rattle.stub_flat.specs.Flat.{calls_of_known}
use Rattle.stub_compare.specs.CompareTold.{body_calls}
use Rattle.stub_compare.proofs.CompareNoted.{known_all, known_end, known_open, none_left, opened, then_left, then_nothing}
use Rattle.stub_compare.proofs.compare_calls.note_known.Goals as goal

pub loop-i-init : goal.loop-i-init
loop-i-init c = record { left = refl; size = refl }

pub loop-i-preserved : goal.loop-i-preserved
loop-i-preserved c =
    let N = c.args.mint.now in
    let xs = c.as_slice-body-items.result.now in
    let known = c.args.known.now in
    let i = c.loop-i.i in
    let spot = get_or known i None in
    let body = body_calls N spot (code_seen c.body-item.result) in
    let rest = calls_of_known N (map code_seen (drop (i + 1) xs)) (drop (i + 1) known) in
    let now = c.loop-i.nodes.items in
    let short : i < length known = omega (arith, c.requires, ap length c.as_slice-body-items.ensures, c.loop-i-test.true) in
    record {
      left = then_left (calls_of_known N (map code_seen xs) known) body rest c.note_body.result c.args.nodes.now.items now
          c.note_body.new.nodes.items c.if-not-note_body.false
          (c.loop-i.invariant.left ∙ opened (calls_of_known N (map code_seen (drop i xs)) (drop i known)) (body ++ rest) now
          (known_open N xs known i c.body-item.result spot c.loop-i-test.true short c.body-item.is refl)) c.note_body.ensures.noted;
      size = c.note_body.ensures.len ∙ c.loop-i.invariant.size;
    }

pub returns-then-not-note_body-clause-noted : goal.returns-then-not-note_body-clause-noted
returns-then-not-note_body-clause-noted c =
    let N = c.args.mint.now in
    let xs = c.as_slice-body-items.result.now in
    let known = c.args.known.now in
    let i = c.loop-i.i in
    let spot = get_or known i None in
    let body = body_calls N spot (code_seen c.body-item.result) in
    let rest = calls_of_known N (map code_seen (drop (i + 1) xs)) (drop (i + 1) known) in
    let old = c.args.nodes.now.items in
    let now = c.loop-i.nodes.items in
    let new = c.note_body.new.nodes.items in
    let short : i < length known = omega (arith, c.requires, ap length c.as_slice-body-items.ensures, c.loop-i-test.true) in
    known_all N xs c.args.subs.now known false old new c.as_slice-body-items.ensures
    (then_nothing (calls_of_known N (map code_seen xs) known) body rest c.note_body.result old now new new c.if-not-note_body.true
    (c.loop-i.invariant.left ∙ opened (calls_of_known N (map code_seen (drop i xs)) (drop i known)) (body ++ rest) now
    (known_open N xs known i c.body-item.result spot c.loop-i-test.true short c.body-item.is refl)) c.note_body.ensures.noted)

pub returns-clause-noted : goal.returns-clause-noted
returns-clause-noted c =
    let N = c.args.mint.now in
    let xs = c.as_slice-body-items.result.now in
    let known = c.args.known.now in
    let i = c.loop-i.i in
    let old = c.args.nodes.now.items in
    let now = c.loop-i.nodes.items in
    known_all N xs c.args.subs.now known true old now c.as_slice-body-items.ensures
    (none_left (calls_of_known N (map code_seen xs) known) old now
    (c.loop-i.invariant.left ∙ opened (calls_of_known N (map code_seen (drop i xs)) (drop i known)) [] now
    (known_end N xs known i (omega (arith, c.loop-i-test.false)))))
