use Rattle.std.proofs.Common.{◌≡◌, ap, ◌∙◌, arith}
use Rattle.stub_flat.specs.Residues.{size_first}
use Rattle.stub_places.specs.Sets.{set_of}
use Rattle.stub_places.proofs.sets.size.Goals as goal

pub returns-clause-is : goal.returns-clause-is
returns-clause-is c =
    let all : c.loop-r.r ≡ 8 = omega (arith, c.loop-r-test.false) in
    c.loop-r.invariant.0 ∙ ap (λ k. size_first k (set_of c.args.set.now)) all
