use Rattle.std.proofs.Common.{◌≡◌, ◌≤◌, drop}
use Rattle.idl_lex.specs.Numbers.{value_on, value_of}
use Rattle.idl_lex.proofs.numbers.value.Given as goal

abbrev pub invariant-loop-o : goal.invariant-loop-o
invariant-loop-o l = (value_of l.string ≡ value_on l.base l.n (drop l.o-index l.o-items)) × (8 ≤ l.base)
