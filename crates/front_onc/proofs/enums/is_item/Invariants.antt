use Rattle.std.proofs.Common.{◌≡◌, drop}
use Rattle.front_onc.specs.Enums.{is_item}
use Rattle.front_onc.proofs.enums.is_item.Given as goal

abbrev pub invariant-loop-item : goal.invariant-loop-item
invariant-loop-item l = is_item l.name l.items ≡ is_item l.name (drop l.item-index l.items)
