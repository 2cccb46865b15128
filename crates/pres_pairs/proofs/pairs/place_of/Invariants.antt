use Rattle.std.proofs.Common.{◌≡◌, drop}
use Rattle.std.specs.List.{position_from}
use Rattle.pres_pairs.specs.Pairs.{is_named}
use Rattle.pres_pairs.proofs.pairs.place_of.Given as goal

-- the first place among all operations is that among those that are left
abbrev pub invariant-loop-op : goal.invariant-loop-op
invariant-loop-op l = record {
  place : l.place ≡ l.op-index;
  left : position_from (is_named l.interface l.name) 0 l.ops
      ≡ position_from (is_named l.interface l.name) l.place (drop l.op-index l.ops);
}
