use Rattle.std.proofs.Common.{length}
use Rattle.idl_read.proofs.Files.{So}
use Rattle.corba_syntax.specs.Derivation.{outermost}
use Rattle.corba_syntax.proofs.parsing.parse.Given as goal

abbrev pub invariant-defs : goal.invariant-defs
invariant-defs l = So outermost l.tokens l.rest l.defs

abbrev pub decreases-defs : goal.decreases-defs
decreases-defs l = length l.rest
