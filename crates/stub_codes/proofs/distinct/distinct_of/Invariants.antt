use Rattle.std.proofs.Common.{◌≡◌, ◌<◌, ◌≤◌, length}
use Rattle.stub_codes.specs.Distinct.{AreSame}
use Rattle.stub_codes.proofs.distinct.distinct_of.Given as goal

abbrev pub invariant-loop-i : goal.invariant-loop-i
invariant-loop-i l =
    record {
      many : length l.ids ≡ l.i;
      few : length l.small ≤ l.i;
      slots : 0 < length l.slots.items;
      same : AreSame l.small l.mint l.ids;
    }
