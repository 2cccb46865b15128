use Rattle.std.proofs.Common.{◌≡◌, map, take}
use Rattle.stub_codes.specs.Distinct.{number_in}
use Rattle.stub_codes.proofs.same_node.are_numbers_in.Given as goal

abbrev pub invariant-loop-i : goal.invariant-loop-i
invariant-loop-i l = take l.i l.kept ≡ map (number_in l.ids) (take l.i l.given)
