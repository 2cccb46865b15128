use Rattle.std.proofs.Common.{◌+◌, SFits, drop, rules, subst}
use Rattle.std.specs.Int.{w128}
use Rattle.std.proofs.lemmas.Int.{to_z-of_z}
use Rattle.serde_json.specs.Data.{array, Items}
use Rattle.json_shape.specs.Printed.{tokens_of, tokens_of_items}
use Rattle.json_shape.specs.Written.{each_json, number_json}
use Rattle.json_shape.proofs.Adding.{Leaves, left_more}
use Rattle.json_shape.proofs.Items.{numbers_next}
use Rattle.json_shape.proofs.printed_scalars.put_numbers.Goals as goal

pub loop-i-preserved : goal.loop-i-preserved
loop-i-preserved c =
    let kind = c.args.kind in
    let numbers = c.args.row.now.numbers in
    let there = rw c.len-i-end.ensures at c.loop-i-test.true in
    let fits : SFits w128 c.in-Some.n = search rules in
    let same = to_z-of_z w128 c.in-Some.n fits in
    let next = numbers_next kind numbers c.loop-i.i c.in-Some.n there c.in-Some.ensures in
    left_more c.args.out.now c.loop-i.out c.put_number.new.out (tokens_of (number_json kind c.in-Some.n))
    (tokens_of_items (each_json kind (drop (c.loop-i.i + 1) numbers))) (tokens_of (array (each_json kind numbers)))
    (rw same at c.in_ok-put_number.ensures)
    (subst (λ (js : Items). Leaves c.args.out.now c.loop-i.out (tokens_of_items js) (tokens_of (array (each_json kind numbers)))) next
    c.loop-i.invariant)
