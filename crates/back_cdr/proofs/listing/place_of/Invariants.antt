use Rattle.std.proofs.Common.{◌≡◌, drop}
use Rattle.std.specs.List.{position_from}
use Rattle.std.specs.Str.{bytes_eq}
use Rattle.back_cdr.proofs.listing.place_of.Given as goal

-- the first place among all names is that among those that are left
abbrev pub invariant-loop-other : goal.invariant-loop-other
invariant-loop-other l = record {
  place : l.place ≡ l.other-index;
  left : position_from (bytes_eq l.name) 0 l.names ≡ position_from (bytes_eq l.name) l.place (drop l.other-index l.names);
}
