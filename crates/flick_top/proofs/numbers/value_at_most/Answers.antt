use Rattle.std.proofs.Common.{arith}
use Rattle.flick_top.proofs.Digits.{none-at_most}
use Rattle.flick_top.proofs.numbers.value_at_most.Goals as goal

pub returns-in-None-clause-value : goal.returns-in-None-clause-value
returns-in-None-clause-value c = none-at_most c.args.most _ (omega arith) (c.decimal_value.ensures.none c.in-None.is)
