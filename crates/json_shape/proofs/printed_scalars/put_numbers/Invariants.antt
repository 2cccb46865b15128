use Rattle.std.proofs.Common.{drop}
use Rattle.serde_json.specs.Data.{array}
use Rattle.json_shape.specs.Printed.{tokens_of, tokens_of_items}
use Rattle.json_shape.specs.Written.{each_json}
use Rattle.json_shape.proofs.Adding.{Leaves}
use Rattle.json_shape.proofs.printed_scalars.put_numbers.Given as goal

-- What is written, and the numbers that are left, are all.
abbrev pub invariant-loop-i : goal.invariant-loop-i
invariant-loop-i l =
    Leaves l.fn.out l.out (tokens_of_items (each_json l.kind (drop l.i l.row.numbers))) (tokens_of (array (each_json l.kind l.row.numbers)))
