use Rattle.std.proofs.Common.{◌≡◌, ap, ◌∙◌, arith}
use Rattle.stub_flat.specs.Residues.{single_first}
use Rattle.stub_places.specs.Sets.{set_of}
use Rattle.stub_places.proofs.sets.single.Goals as goal

pub returns : goal.returns
returns c =
    let all : c.loop-r.r ≡ 8 = omega (arith, c.loop-r-test.false) in
    c.loop-r.invariant ∙ ap (λ k. single_first k (set_of c.args.set.now)) all
