use Rattle.std.proofs.Common.{◌≡◌, ◌≤◌, ◌+◌, ◌*◌, drop}
use Rattle.mint.specs.Types.{unfolded, fields_at}
use Rattle.mint.specs.Values.{weights}
use Rattle.mint.specs.Blank.{blanks}
use Rattle.mint.proofs.table.Mint.fields_weight.Given as goal

-- the sum so far, and of what is left
abbrev pub invariant-loop-id : goal.invariant-loop-id
invariant-loop-id l = record {
  sum : l.sum + weights (blanks (fields_at (unfolded l.self) (drop l.id-index l.id-items)))
      ≡ weights (blanks (fields_at (unfolded l.self) l.id-items));
  bound : l.sum ≤ l.id-index * 1048576;
}
