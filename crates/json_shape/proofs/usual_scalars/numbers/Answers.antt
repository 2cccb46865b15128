use Rattle.std.proofs.Common.{◌≡◌, Some, rules, SFits, ◌∙◌, arith}
use Rattle.std.specs.Int.{w128}
use Rattle.std.proofs.lemmas.Int.{to_z-of_z}
use Rattle.json.specs.Json.{after_end_array}
use Rattle.json_shape.specs.Scalars.{number_in}
use Rattle.json_shape.proofs.UsualReading.{item_more, numbers_closed, numbers_taken, same_number}
use Rattle.json_shape.proofs.usual_scalars.numbers.Goals as goal

pub loop-kind-preserved : goal.loop-kind-preserved
loop-kind-preserved c =
    let l = c.loop-kind in
    let going : c.take_end_array.new.self ≡ l.reader = grind arith in
    let fits : SFits w128 c.in_ok-n.n = search rules in
    record {
      kind = c.in_ok-push_number.ensures.kind ∙ l.invariant.kind;
      taken =
          rw (c.in_ok-push_number.ensures.numbers, to_z-of_z w128 c.in_ok-n.n fits)
          (item_more 0 (number_in c.args.kind) same_number _ _ _ l.row.numbers c.in_ok-n.n l.invariant.taken
          (rw going at c.in_ok-n.ensures.value));
    }

pub returns-clause-numbers : goal.returns-clause-numbers
returns-clause-numbers c =
    let l = c.loop-kind in
    let ended : after_end_array l.reader ≡ Some c.take_end_array.new.self = grind arith in
    numbers_taken _ _ _ _ c.args.kind l.row.numbers (omega arith) c.in_ok-begin_items.ensures
    (numbers_closed c.args.kind _ _ _ l.row.numbers l.invariant.taken ended)
