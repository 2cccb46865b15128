use Rattle.std.proofs.Common.{arith, refl}
use Rattle.pres.specs.declared.draft.Entry.{Entry}
use Rattle.pres.proofs.Drafting.{within, entry_there, level-at}
use Rattle.pres.proofs.Facing.{named_at}
use Rattle.pres.proofs.draft.Draft.entry.Goals as goal

pub index-requires : goal.index-requires
index-requires c =
    omega (
      arith,
      c.self.inside.entries.ok.0,
      within _ c.self.inside.entries.items c.args.id c.self.invariant refl
          (rw c.self.view_is c.requires),
    )

pub returns-clause-named : goal.returns-clause-named
returns-clause-named c =
    let there = within _ c.self.inside.entries.items c.args.id c.self.invariant refl (rw c.self.view_is c.requires) in
    named_at _ _ c.args.id _ _ c.self.invariant.named
    (entry_there (λ (e : Entry). e.node) _ c.args.id _ there c.index.ensures) (entry_there (λ (e : Entry).
    e.shape) _ c.args.id _ there c.index.ensures)

pub returns-clause-below : goal.returns-clause-below
returns-clause-below c =
    let there = within _ c.self.inside.entries.items c.args.id c.self.invariant refl (rw c.self.view_is c.requires) in
    c.self.invariant.table c.args.id _ (entry_there (λ (e : Entry). e.node) _ c.args.id _ there c.index.ensures)

pub returns-clause-is : goal.returns-clause-is
returns-clause-is c =
    let there = within _ c.self.inside.entries.items c.args.id c.self.invariant refl (rw c.self.view_is c.requires) in
    rw (← c.self.view_is)
    (level-at _ c.args.id _ _ c.self.invariant
    (entry_there (λ (e : Entry). e.node) _ c.args.id _ there c.index.ensures) (entry_there (λ (e : Entry).
    e.shape) _ c.args.id _ there c.index.ensures))
