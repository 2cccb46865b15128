use Rattle.std.proofs.Common.{◌≡◌, ◌+◌, drop}
use Rattle.pres.specs.Raises.{number_from}
use Rattle.pres.proofs.raise_table.number_among.Given as goal

-- the first number among all names is that among those that are left
abbrev pub invariant-loop-name : goal.invariant-loop-name
invariant-loop-name l = record {
  number : l.number ≡ 1 + l.name-index;
  left : number_from l.text 1 l.names ≡ number_from l.text l.number (drop l.name-index l.names);
}
