use Rattle.std.proofs.Common.{arith}
use Rattle.std.proofs.lemmas.List.{length-map}
use Rattle.pres.specs.declared.draft.Entry.{Entry}
use Rattle.pres.proofs.Drafting.{drawn-length}
use Rattle.pres.proofs.draft.Draft.len.Goals as goal

pub returns-clause-value : goal.returns-clause-value
returns-clause-value c = let many = drawn-length _ c.self.invariant in
    rw (← c.self.view_is)
    (omega (arith, many, c.len.ensures, length-map c.self.inside.entries.items (λ (e : Entry). e.node), c.self.inside.entries.ok.0))
