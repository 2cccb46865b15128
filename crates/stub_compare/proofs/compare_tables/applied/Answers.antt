use Rattle.std.proofs.Common.{◌≡◌, List, Bool, ap, ◌∙◌, arith}
use Rattle.stub_compare.specs.CompareSets.{applied}
use Rattle.stub_places.specs.Sets.{set_of}
use Rattle.stub_compare.proofs.CompareTables.{applied_more}
use Rattle.stub_compare.proofs.compare_tables.applied.Goals as goal

pub loop-k-init : goal.loop-k-init
loop-k-init c = λ r lt. ap (λ (l : List Bool). set_of l r) c.row-made.ensures

pub loop-k-preserved : goal.loop-k-preserved
loop-k-preserved c =
    applied_more c.args.table.now (set_of c.args.set.now) (set_of c.loop-k.made)
    (set_of c.with_row-made.result) c.loop-k.k c.loop-k-test.true
    c.with_row-made.ensures c.loop-k.invariant

pub returns : goal.returns
returns c =
    let all : c.loop-k.k ≡ 8 = omega (arith, c.loop-k-test.false) in
    λ r lt. c.loop-k.invariant r lt ∙ ap (λ k. applied k c.args.table.now (set_of c.args.set.now) r) all
