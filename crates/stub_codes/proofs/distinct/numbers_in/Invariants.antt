use Rattle.std.proofs.Common.{◌≡◌, map, take}
use Rattle.stub_codes.specs.Distinct.{number_in}
use Rattle.stub_codes.proofs.distinct.numbers_in.Given as goal

abbrev pub invariant-loop-id : goal.invariant-loop-id
invariant-loop-id l = l.list ≡ map (number_in l.ids) (take l.id-index l.given)
