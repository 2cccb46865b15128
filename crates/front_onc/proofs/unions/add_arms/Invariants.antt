use Rattle.std.proofs.Common.{◌≡◌, ◌++◌, drop}
use Rattle.idl_names.specs.Arms.{arms_held, arms_for}
use Rattle.front_onc.specs.Unions.{arm_shape}
use Rattle.front_onc.proofs.unions.add_arms.Given as goal

abbrev pub invariant-loop-n : goal.invariant-loop-n
invariant-loop-n l = arms_held l.initial.arms ++ arms_for (arm_shape l.form) l.numbers
    ≡ arms_held l.arms ++ arms_for (arm_shape l.form) (drop l.n-index l.numbers)
