use Rattle.std.proofs.Common.{arith}
use Rattle.idl_lex.specs.Numbers.{value_of}
use Rattle.idl_lex.proofs.Digits.{at_least}
use Rattle.idl_lex.proofs.numbers.value.Goals as goal

pub returns-in_default : goal.returns-in_default
returns-in_default c =
    let most = at_least c.base-base.result c.loop-o.n c.loop-o.o-index (value_of c.args.string.now) c.digits-o-items.result.now
    c.loop-o.invariant.0 c.loop-o-test.true (omega (arith, c.loop-o.invariant.1)) in
    omega (arith, most, c.digit_value.ensures, c.in_default.ensures)
