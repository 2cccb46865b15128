use Rattle.std.proofs.Common.{◌≡◌, take}
use Rattle.stub_codes.proofs.same_node.are_same.Given as goal

abbrev pub invariant-loop-i : goal.invariant-loop-i
invariant-loop-i l = take l.i l.kept ≡ take l.i l.given
