use Rattle.std.proofs.Common.{◌≡◌, ℕ, List, [], length, drop, sym, ◌∙◌, subst, arith}
use Rattle.std.proofs.lemmas.List.{drop_all}
use Rattle.json.specs.Token.{end_array, end_object}
use Rattle.mint.specs.Values.{all_seen}
use Rattle.pres.specs.Faces.{faces, parts_at}
use Rattle.serde_json.specs.Data.{array, object, Items, Members, no_members}
use Rattle.json_shape.specs.Printed.{members_at, tokens_of, tokens_of_items, tokens_of_members}
use Rattle.json_shape.specs.Written.{in_order_json, by_name_json}
use Rattle.json_shape.proofs.Adding.{Leaves, left_last}
use Rattle.json_shape.proofs.FieldPlaces.{fields_put, order_is, trees_at}
use Rattle.json_shape.proofs.Items.{parts_none}
use Rattle.json_shape.proofs.printing.+print.Goals as goal

pub by_name-returns : goal.by_name-returns
by_name-returns t c =
    let fs = faces c.args.bound.now.nodes c.args.bound.now.shapes in
    let names = c.args.names.now in
    let ids = c.args.ids.now in
    let values = c.args.values.now in
    let order = c.args.order.now in
    let old = c.args.out.now in
    let out = c.loop-i.out in
    let tree = trees_at fs ids values in
    let lens : length values ≡ length ids = rw (c.as_slice-ids.ensures, c.as_slice-values.ensures) at c.if-values-ids.false in
    let same : by_name_json (parts_at fs names ids) (all_seen values) ≡ members_at names tree order =
    fields_put fs names ids values c.requires.named lens ∙ order_is names tree order c.requires.order in
    let none : drop c.loop-i.i-index order ≡ [] = drop_all c.loop-i.i-index order (omega (arith, c.loop-i-test.false)) in
    let left = subst (λ (is : List ℕ). Leaves old out (tokens_of_members (members_at names tree is))
    (tokens_of (object (members_at names tree order)))) none c.loop-i.invariant in
    let all = subst (λ (ms : Members). Leaves old out (tokens_of_members no_members) (tokens_of (object ms))) (sym same) left in
    left_last old out c.end_object.new.self end_object (tokens_of (object (by_name_json (parts_at fs names ids) (all_seen values))))
    c.in_ok-end_object.ensures.ok c.in_ok-end_object.ensures.room.0 all

pub in_order-returns : goal.in_order-returns
in_order-returns t c =
    let fs = faces c.args.bound.now.nodes c.args.bound.now.shapes in
    let ids = c.args.ids.now in
    let values = c.args.values.now in
    let old = c.args.out.now in
    let out = c.loop-i.out in
    let all = tokens_of (array (in_order_json (parts_at fs [] ids) (all_seen values))) in
    let none = parts_none fs ids values c.loop-i.i (λ m n. omega (arith, c.min-i-end.ensures, c.loop-i-test.false, m, n)) in
    let left = subst (λ (js : Items). Leaves old out (tokens_of_items js) all) none c.loop-i.invariant in
    left_last old out c.end_array.new.self end_array all c.in_ok-end_array.ensures.ok c.in_ok-end_array.ensures.room.0 left
