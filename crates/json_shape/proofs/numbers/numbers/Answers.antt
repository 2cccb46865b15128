use Rattle.std.proofs.Common.{rules, SFits, sym, ◌∙◌, ap}
use Rattle.std.specs.Int.{w128}
use Rattle.std.proofs.lemmas.Int.{to_z-of_z}
use Rattle.serde_json.specs.Data.{array}
use Rattle.serde_json.proofs.Views.{view-Array}
use Rattle.json_shape.proofs.Items.{numbers_more, numbers_done}
use Rattle.json_shape.proofs.numbers.numbers.Goals as goal

pub loop-i-preserved : goal.loop-i-preserved
loop-i-preserved c =
    let there = rw c.len-i-end.ensures at c.loop-i-test.true in
    let fits : SFits w128 c.in-Some.n = search rules in
    let same = to_z-of_z w128 c.in-Some.n fits in
    let more = numbers_more c.args.kind c.args.row.now.numbers c.loop-i.i c.in-Some.n c.loop-i.list.items
    c.in_ok-number_json.field-0 there c.in-Some.ensures (rw same at c.in_ok-number_json.ensures) in
    rw c.in_ok-push.ensures.items (sym more ∙ c.loop-i.invariant)

pub returns : goal.returns
returns c =
    let past = rw c.len-i-end.ensures at c.loop-i-test.false in
    view-Array c.loop-i.list
    ∙ ap array (numbers_done c.args.kind c.args.row.now.numbers c.loop-i.i c.loop-i.list.items _ past c.loop-i.invariant)
