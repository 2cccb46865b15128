use Rattle.std.proofs.Common.{◌≡◌, drop}
use Rattle.kit_base.specs.Decimal.{value_on}
use Rattle.kit_base.proofs.decimal.decimal_value.Given as goal

abbrev pub invariant-loop-d : goal.invariant-loop-d
invariant-loop-d l = value_on 0 l.digits ≡ value_on l.n (drop l.d-index l.digits)
