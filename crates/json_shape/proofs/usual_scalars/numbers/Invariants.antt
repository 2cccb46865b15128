use Rattle.std.proofs.Common.{◌≡◌, length}
use Rattle.json.specs.Tree.{json_tokens}
use Rattle.json_shape.specs.Scalars.{number_in}
use Rattle.json_shape.proofs.UsualReading.{ItemRead, Taken, same_number}
use Rattle.json_shape.proofs.usual_scalars.numbers.Given as goal

-- The numbers so far are those of the items that were taken.
abbrev pub invariant-loop-kind : goal.invariant-loop-kind
invariant-loop-kind l = record {
  kind : l.row.kind ≡ l.kind;
  taken : Taken json_tokens (ItemRead 0 (number_in l.kind) same_number) l.initial.reader l.reader l.row.numbers;
}

abbrev pub decreases-loop-kind : goal.decreases-loop-kind
decreases-loop-kind l = length l.reader
