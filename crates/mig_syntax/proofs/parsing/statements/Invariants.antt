use Rattle.std.proofs.Common.{length}
use Rattle.idl_read.proofs.Files.{So}
use Rattle.mig_syntax.specs.Derivation.{statement}
use Rattle.mig_syntax.proofs.parsing.statements.Given as goal

abbrev pub invariant-items : goal.invariant-items
invariant-items l = So statement l.tokens l.rest l.items

abbrev pub decreases-items : goal.decreases-items
decreases-items l = length l.rest
