use Rattle.std.proofs.Common.{◌≡◌, ◌≤◌, drop}
use Rattle.stub_read.specs.Words.{digits_on}
use Rattle.stub_read.proofs.words.digits.Given as goal

-- what is read on, and its bound
abbrev pub invariant-loop-i : goal.invariant-loop-i
invariant-loop-i l = (digits_on l.most 0 l.text ≡ digits_on l.most l.n (drop l.i l.text)) × (l.n ≤ l.most)
