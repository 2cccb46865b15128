use Rattle.std.proofs.Common.{◌≡◌, [], None, drop}
use Rattle.front_onc.specs.Held.{state}
use Rattle.front_onc.specs.Enums.{items_on}
use Rattle.front_onc.proofs.enums.items.Given as goal

abbrev pub invariant-loop-i : goal.invariant-loop-i
invariant-loop-i l = items_on l.d l.k l.place (state l.initial.r) [] None l.list
    ≡ items_on l.d l.k l.place (state l.r) l.items l.previous (drop l.i-index l.list)
