use Rattle.std.proofs.Common.{◌+◌, ◌-◌, ◌*◌, length}
use Rattle.idl_read.specs.Reading.{many}
use Rattle.idl_read.proofs.Loops.{Left}
use Rattle.idl_exprs.specs.Readers.{is_open}
use Rattle.corba_syntax.specs.DefinitionReaders.{definition_at}
use Rattle.corba_syntax.proofs.definitions.+definition.Given as goal

abbrev pub invariant-definitions-items : goal.invariant-definitions-items
invariant-definitions-items l = Left is_open (definition_at l.levels) (length l.tokens - l.counter) l.items l.rest
    (many is_open (definition_at l.levels) l.fn.tokens)

abbrev pub decreases-definition : goal.decreases-definition
decreases-definition l = 4 * l.levels

abbrev pub decreases-definitions : goal.decreases-definitions
decreases-definitions l = 4 * l.levels + 1

abbrev pub decreases-module : goal.decreases-module
decreases-module l = 4 * l.below + 2

abbrev pub decreases-above : goal.decreases-above
decreases-above l = 4 * l.below + 3
