use Rattle.std.proofs.Common.{arith}
use Rattle.std.proofs.lemmas.Grind.{common_steps}
use Rattle.kit_base.proofs.Found.{digit-le}
use Rattle.kit_base.proofs.decimal.decimal_value.Goals as goal

pub returns-in_default-clause-none : goal.returns-in_default-clause-none
returns-in_default-clause-none c = λ _ m fits e.
    let least = digit-le c.args.digits.now c.loop-d.d-index c.loop-d.n m c.loop-d.invariant c.loop-d-test.true (omega arith) (omega arith) e
    in
    absurd (grind (arith, common_steps, least, c.in_default.ensures))

pub returns-in_default-checked_add-clause-none : goal.returns-in_default-checked_add-clause-none
returns-in_default-checked_add-clause-none c = λ _ m fits e.
    let least = digit-le c.args.digits.now c.loop-d.d-index c.loop-d.n m c.loop-d.invariant c.loop-d-test.true (omega arith) (omega arith) e
    in
    absurd (grind (arith, common_steps, least, c.in-Some.ensures, c.in_default-checked_add.ensures))
