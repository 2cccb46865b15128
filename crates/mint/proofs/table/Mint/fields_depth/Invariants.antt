use Rattle.std.proofs.Common.{◌≡◌, ◌≤◌, max, drop}
use Rattle.mint.specs.Types.{unfolded, fields_at}
use Rattle.mint.specs.Blank.{fields_depth}
use Rattle.mint.proofs.table.Mint.fields_depth.Given as goal

-- the deepest so far, and of what is left
abbrev pub invariant-loop-id : goal.invariant-loop-id
invariant-loop-id l = record {
  deep : max l.deepest (fields_depth (fields_at (unfolded l.self) (drop l.id-index l.id-items)))
      ≡ fields_depth (fields_at (unfolded l.self) l.id-items);
  bound : l.deepest ≤ 32;
}
