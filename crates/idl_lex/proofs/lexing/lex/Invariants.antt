use Rattle.std.proofs.Common.{length, ◌-◌}
use Rattle.idl_lex.proofs.Reading.{So}
use Rattle.idl_lex.proofs.lexing.lex.Given as goal

abbrev pub invariant-pieces : goal.invariant-pieces
invariant-pieces l = So l.front l.text l.line l.at l.imports l.tokens

abbrev pub decreases-pieces : goal.decreases-pieces
decreases-pieces l = length l.text - l.at
