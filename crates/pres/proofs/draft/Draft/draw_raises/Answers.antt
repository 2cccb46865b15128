use Rattle.std.proofs.Common.{◌≡◌, ◌+◌, ap, ◌∙◌, drop, map, FitsSigned, rules}
use Rattle.std.specs.Int.{w128}
use Rattle.std.proofs.lemmas.Int.{to_z-of_z}
use Rattle.std.proofs.Math.ListN.{drop_of_length-le}
use Rattle.aoi.specs.Plain.{plain_raise}
use Rattle.pres.specs.Faces.{no_other}
use Rattle.pres.specs.Offers.{raised}
use Rattle.pres.specs.Drafts.{known}
use Rattle.pres.proofs.Exchange.{raise_left, raise_nodes, raise_arms, raises_end}
use Rattle.pres.proofs.draft.Draft.draw_raises.Goals as goal

pub loop-k-preserved : goal.loop-k-preserved
loop-k-preserved c =
    let fs = known c.args.self.now in
    let rs = c.args.raises.now in
    let i = c.loop-k.k in
    let r = c.index-raises-k.result in
    let inv = c.loop-k.invariant in
    let lt = c.loop-k-test.true in
    let is = c.index-raises-k.is in
    let g = c.in_ok-id.ensures.grows in
    let d = rw inv.same at c.in_ok-id.ensures.id in
    let fits : FitsSigned w128 c.arm_number.result = search rules in
    record {
      same = g.types ∙ inv.same;
      nodes = raise_nodes fs rs i r _ _ _ lt is inv.nodes (rw inv.same at g.nodes);
      arms = raise_arms fs rs i r _ _ _ _ _ _ _ _ lt is g d (to_z-of_z w128 _ fits ∙ c.arm_number.ensures) c.in_ok-push-2.ensures.ok
          inv.arms;
      left = (raise_left _ rs i r lt is inv.left).1;
    }

pub returns-clause-arms : goal.returns-clause-arms
returns-clause-arms c =
    let over : raised (known c.args.self.now) (1 + c.loop-k.k) (map plain_raise (drop c.loop-k.k c.args.raises.now)) ≡ no_other =
    ap (λ z.
    raised (known c.args.self.now) (1 + c.loop-k.k) (map plain_raise z)) (drop_of_length-le c.args.raises.now c.loop-k-test.false) in
    raises_end _ _ _ (rw over at c.loop-k.invariant.arms)
