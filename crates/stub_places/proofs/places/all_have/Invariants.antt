use Rattle.std.proofs.Common.{◌≡◌, List, Option, drop}
use Rattle.cast_stub.specs.declared.send.SendOp.{SendOp}
use Rattle.cast_stub.specs.Block.{cases_seen}
use Rattle.stub_flat.specs.Places.{all_have}
use Rattle.stub_places.proofs.places.all_have.Given as goal

-- what is asked of the arms that are left
abbrev pub invariant-loop-arm : goal.invariant-loop-arm
invariant-loop-arm l = (last : Option (List SendOp)) → all_have l.arm-items (cases_seen l.cases last)
    ≡ all_have (drop l.arm-index l.arm-items) (cases_seen l.cases last)
