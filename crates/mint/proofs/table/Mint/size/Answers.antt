use Rattle.std.proofs.Common.{ap, map, length, arith}
use Rattle.std.proofs.lemmas.List.{length-map}
use Rattle.mint.specs.declared.table.Entry.{Entry}
use Rattle.mint.specs.declared.size.Size.{Size}
use Rattle.mint.proofs.Measuring.{size_kept, size_small}
use Rattle.mint.proofs.table.Mint.size.Goals as goal

pub returns-clause-value : goal.returns-clause-value
returns-clause-value c =
    let es = c.self.inside.entries.items in
    rw (← c.self.view_is)
    (size_kept
    (λ (e : Entry). e.node) (λ (e : Entry).
    e.size) es c.args.id _ c.self.invariant
    (omega (arith, length-map es (λ (e : Entry). e.node), ap length c.self.view_is)) c.index.ensures)

pub returns-clause-depth : goal.returns-clause-depth
returns-clause-depth c =
    let es = c.self.inside.entries.items in
    let nodes = map (λ (e : Entry). e.node) es in
    let small = size_small nodes _ c.args.id c.self.invariant (rw c.self.view_is c.requires) in
    let kept =
    size_kept
    (λ (e : Entry). e.node) (λ (e : Entry).
    e.size) es c.args.id _ c.self.invariant
    (omega (arith, length-map es (λ (e : Entry). e.node), ap length c.self.view_is)) c.index.ensures in
    omega (arith, ap (λ (s : Size). s.depth) kept, small.shallow)

pub returns-clause-weight : goal.returns-clause-weight
returns-clause-weight c =
    let es = c.self.inside.entries.items in
    let nodes = map (λ (e : Entry). e.node) es in
    let small = size_small nodes _ c.args.id c.self.invariant (rw c.self.view_is c.requires) in
    let kept =
    size_kept
    (λ (e : Entry). e.node) (λ (e : Entry).
    e.size) es c.args.id _ c.self.invariant
    (omega (arith, length-map es (λ (e : Entry). e.node), ap length c.self.view_is)) c.index.ensures in
    omega (arith, ap (λ (s : Size). s.weight) kept, small.light)
