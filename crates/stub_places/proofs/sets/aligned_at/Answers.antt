use Rattle.std.proofs.Common.{◌≡◌, ap, ◌∙◌, arith}
use Rattle.stub_flat.specs.Residues.{comes}
use Rattle.stub_places.specs.Sets.{set_of}
use Rattle.stub_places.proofs.sets.aligned_at.Goals as goal

pub returns : goal.returns
returns c =
    let all : c.loop-k.k ≡ 8 = omega (arith, c.loop-k-test.false) in
    c.loop-k.invariant ∙ ap (λ k. comes k c.args.a (set_of c.args.set.now) c.args.r) all
