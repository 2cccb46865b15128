use Rattle.std.proofs.Common.{◌≡◌, ◌≤◌, max, drop}
use Rattle.mint.specs.Types.{unfolded, arms_at}
use Rattle.mint.specs.Blank.{arms_depth}
use Rattle.mint.proofs.table.Mint.arms_depth.Given as goal

-- the deepest so far, and of what is left
abbrev pub invariant-loop-id : goal.invariant-loop-id
invariant-loop-id l = record {
  deep : max l.deepest (arms_depth (arms_at (unfolded l.self) (drop l.id-index l.id-items) l.other))
      ≡ arms_depth (arms_at (unfolded l.self) l.id-items l.other);
  bound : l.deepest ≤ 32;
}
