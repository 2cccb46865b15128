use Rattle.std.proofs.Common.{[]}
use Rattle.stub_flat.specs.Items.{num, ordered}
use Rattle.stub_compare.proofs.CompareTexts.{OwnLeft}
use Rattle.stub_compare.proofs.compare_octets.put_itself.Given as goal

-- what is put, and what is left
abbrev pub invariant-loop-j : goal.invariant-loop-j
invariant-loop-j l = OwnLeft (ordered (num []) l.fn.width l.fn.order) l.turned l.fn.width l.j l.fn.out l.out
