use Rattle.std.proofs.Common.{◌≤◌, length, arith}
use Rattle.std.proofs.lemmas.Bool.Decides.{nat_tests}
use Rattle.flick_top.proofs.Digits.{number-within}
use Rattle.flick_top.proofs.numbers.number_in.Goals as goal

pub returns-clause-value : goal.returns-clause-value
returns-clause-value c =
    let some : 1 ≤ length c.args.word.now = grind (arith, nat_tests, c.is_empty.ensures, c.if-is_empty.false) in
    number-within c.args.most c.args.word.now _ some (omega arith) c.value_at_most.ensures.value
