use Rattle.stub_compare.proofs.ComparePuts.{IsLeft}
use Rattle.stub_compare.proofs.compare.put_list.Given as goal

-- what is put, and what is left
abbrev pub invariant-loop-i : goal.invariant-loop-i
invariant-loop-i l = IsLeft l.mint l.body-items l.spots l.i l.fn.out l.out
