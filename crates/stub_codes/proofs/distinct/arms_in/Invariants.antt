use Rattle.std.proofs.Common.{◌≡◌, map, take}
use Rattle.stub_codes.specs.Distinct.{arm_in}
use Rattle.stub_codes.proofs.distinct.arms_in.Given as goal

abbrev pub invariant-loop-arm : goal.invariant-loop-arm
invariant-loop-arm l = l.arms ≡ map (arm_in l.ids) (take l.arm-index l.given)
