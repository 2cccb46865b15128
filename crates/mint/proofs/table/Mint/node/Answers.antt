use Rattle.std.proofs.Common.{sym}
use Rattle.mint.specs.declared.table.Entry.{Entry}
use Rattle.mint.proofs.Unfolding.{type_at-level}
use Rattle.mint.proofs.Measuring.{entry_there, entry_past}
use Rattle.mint.proofs.table.Mint.node.Goals as goal

pub returns-in-Some-clause-is : goal.returns-in-Some-clause-is
returns-in-Some-clause-is c =
    rw (← c.self.view_is)
    (type_at-level _ c.args.id _ c.self.invariant.table
    (entry_there (λ (e : Entry). e.node) _ _ c.args.id _ c.deref.ensures.value c.in-Some.ensures.lookup.0 c.in-Some.ensures.lookup.1))

pub returns-in-None-clause-found : goal.returns-in-None-clause-found
returns-in-None-clause-found c =
    rw (← c.self.view_is) (sym (entry_past (λ (e : Entry). e.node) _ _ c.args.id c.deref.ensures.value c.in-None.ensures.lookup.3))
