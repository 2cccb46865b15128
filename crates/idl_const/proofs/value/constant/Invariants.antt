use Rattle.std.proofs.Common.{◌≡◌, drop}
use Rattle.idl_const.specs.Values.{constant_of}
use Rattle.idl_const.proofs.value.constant.Given as goal

abbrev pub invariant-loop-known : goal.invariant-loop-known
invariant-loop-known l = constant_of l.name l.consts ≡ constant_of l.name (drop l.known-index l.consts)
