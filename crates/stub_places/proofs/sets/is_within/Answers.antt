use Rattle.std.proofs.Common.{◌≡◌, ap, ◌∙◌, arith}
use Rattle.stub_flat.specs.Residues.{within_first}
use Rattle.stub_places.specs.Sets.{set_of}
use Rattle.stub_places.proofs.sets.is_within.Goals as goal

pub returns : goal.returns
returns c =
    let all : c.loop-r.r ≡ 8 = omega (arith, c.loop-r-test.false) in
    c.loop-r.invariant ∙ ap (λ k. within_first k (set_of c.args.a.now) (set_of c.args.b.now)) all
