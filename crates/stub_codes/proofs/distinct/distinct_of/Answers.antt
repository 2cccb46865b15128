use Rattle.std.proofs.Common.{ℕ, List, [], ◌∷◌, ◌++◌, length, ap, sym, subst, arith, length-append}
use Rattle.stub_codes.specs.Distinct.{AreSame}
use Rattle.stub_codes.proofs.distinct.distinct_of.Goals as goal

pub placed-requires-clause-same : goal.placed-requires-clause-same
placed-requires-clause-same c =
    subst (AreSame c.loop-i.small c.args.mint.now) (sym c.as_slice.ensures) c.loop-i.invariant.same

pub loop-i-preserved : goal.loop-i-preserved
loop-i-preserved c =
    let ids = c.loop-i.ids in
    let id = c.in_ok-id.id in
    let list = c.in_ok-push.ensures.ok in
    let seen = ap length c.as_slice.ensures in
    record {
      many = omega (arith, ap length list, length-append ids (id ∷ []), c.loop-i.invariant.many);
      few = omega (arith, seen, c.in_ok-id.ensures.few, c.loop-i.invariant.many);
      slots = omega (arith, c.loop-i.invariant.slots, c.in_ok-id.ensures.slots);
      same = subst (AreSame c.placed.new.small c.args.mint.now) (sym list)
          (subst (λ (l : List ℕ). AreSame c.placed.new.small c.args.mint.now (l ++ id ∷ [])) c.as_slice.ensures c.in_ok-id.ensures.same);
    }
