use Rattle.kit_base.proofs.Found.{number_value}
use Rattle.kit_base.proofs.decimal.read_number.Goals as goal

pub returns-clause-none : goal.returns-clause-none
returns-clause-none c = λ is m fits e. c.decimal_value.ensures.none is m fits (number_value c.args.word.now m e)
