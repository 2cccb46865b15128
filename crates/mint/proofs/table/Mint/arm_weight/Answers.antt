use Rattle.std.proofs.Common.{ap, arith}
use Rattle.mint.specs.declared.size.Size.{Size}
use Rattle.mint.specs.Values.{weight}
use Rattle.mint.specs.Types.{unfolded, others_at}
use Rattle.mint.specs.Blank.{blank_arm}
use Rattle.mint.proofs.Measuring.{arms_first, arms_none}
use Rattle.mint.proofs.table.Mint.arm_weight.Goals as goal

pub returns-in-Some : goal.returns-in-Some
returns-in-Some c = λ s.
    let first = ap weight (arms_first (unfolded c.args.self.now) c.args.arms.now c.args.other s _ c.in-Some.ensures) in
    let kept = ap (λ (z : Size). z.weight) c.size.ensures.value in
    omega arith

pub returns-in-Some-other : goal.returns-in-Some-other
returns-in-Some-other c = λ s.
    let ts = unfolded c.args.self.now in
    let none = ap (λ z. weight (blank_arm s z)) (arms_none ts c.args.arms.now c.args.other c.in-None.ensures) in
    let last = ap (λ o. weight (blank_arm s (others_at ts o))) c.in-Some-other.is in
    let kept = ap (λ (z : Size). z.weight) c.size-in-Some-other.ensures.value in
    omega arith

pub returns-in-None-other : goal.returns-in-None-other
returns-in-None-other c = λ s.
    let ts = unfolded c.args.self.now in
    let none = ap (λ z. weight (blank_arm s z)) (arms_none ts c.args.arms.now c.args.other c.in-None.ensures) in
    let last = ap (λ o. weight (blank_arm s (others_at ts o))) c.in-None-other.is in
    omega arith
