use Rattle.std.proofs.Common.{◌<◌, ◌≤◌, length, set, false, true, None, Some, refl, sym, ◌∙◌, arith}
use Rattle.stub_compare.proofs.CompareLists.{at_any}
use Rattle.stub_compare.proofs.CompareNoted.{call_at, note_beyond, note_free, note_node, note_unknown}
use Rattle.stub_compare.proofs.compare_calls.note.Goals as goal

pub returns-then-at-len-clause-noted : goal.returns-then-at-len-clause-noted
returns-then-at-len-clause-noted c =
    let ts = c.args.nodes.now.items in
    let beyond : length ts ≤ c.args.k = omega (arith, c.if-at-len.true, c.len.ensures, c.args.nodes.now.ok.0) in
    note_beyond c.args.k c.args.spot ts beyond

pub returns-in_default-clause-noted : goal.returns-in_default-clause-noted
returns-in_default-clause-noted c =
    let ts = c.args.nodes.now.items in
    let within : c.args.k < length ts = omega (arith, c.if-at-len.false, c.len.ensures, c.args.nodes.now.ok.0) in
    call_at false None c.args.k c.args.spot ts ts (sym c.in_default.is) (note_unknown c.args.k ts ts within)

pub returns-in-Some-index-clause-noted : goal.returns-in-Some-index-clause-noted
returns-in-Some-index-clause-noted c =
    let ts = c.args.nodes.now.items in
    let within : c.args.k < length ts = omega (arith, c.if-at-len.false, c.len.ensures, c.args.nodes.now.ok.0) in
    call_at _ _ c.args.k c.args.spot ts ts (sym c.in-Some.is)
    (note_node _ c.args.k c.in-Some.id c.in-Some-index.other ts within
    (at_any ts c.args.k c.index.result.now None within c.index.ensures ∙ c.in-Some-index.is) refl)

pub returns-in-None-clause-noted : goal.returns-in-None-clause-noted
returns-in-None-clause-noted c =
    let ts = c.args.nodes.now.items in
    let within : c.args.k < length ts = omega (arith, c.if-at-len.false, c.len.ensures, c.args.nodes.now.ok.0) in
    let us = set ts c.args.k (Some c.in-Some.id) in
    call_at true (Some c.in-Some.id) c.args.k c.args.spot ts us (sym c.in-Some.is)
    (note_free c.args.k c.in-Some.id ts us within
    (at_any ts c.args.k c.index.result.now None within c.index.ensures ∙ c.in-None.is) refl)
