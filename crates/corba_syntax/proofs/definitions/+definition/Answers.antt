use Rattle.std.proofs.Common.{◌∙◌, ◌-◌, sym, subst, length, arith}
use Rattle.idl_read.specs.Reading.{Gives, many}
use Rattle.idl_read.proofs.Loops.{goes_on}
use Rattle.idl_exprs.specs.Readers.{is_open}
use Rattle.corba_syntax.specs.DefinitionReaders.{definition_at}
use Rattle.corba_syntax.proofs.Steps.{stepped}
use Rattle.corba_syntax.proofs.definitions.+definition.Goals as goal

pub definition-returns : goal.definition-returns
definition-returns t c =
    subst
    (Gives
    (λ x.
    (x.0, x.1.now)) c.above.result) (stepped c.args.levels (c.args.levels - 1) c.args.tokens.now
    (omega (arith, c.if-levels-eq0.false))) c.above.ensures

pub definitions-items-preserved : goal.definitions-items-preserved
definitions-items-preserved t c =
    rw c.in_ok-push-in-Ok.ensures.ok (goes_on is_open (definition_at c.args.levels) (length c.args.tokens.now) c.items.counter
    c.items.items c.items.rest.now (many is_open (definition_at c.args.levels) c.args.tokens.now) c.in-Ok.item c.in-Ok.after.now
    c.items.invariant (omega arith) (sym c.stands_before.ensures ∙ c.if-not-stands_before.false) c.in-Ok.ensures)
