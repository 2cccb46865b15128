use Rattle.std.proofs.Common.{◌≡◌, ℕ, true, List, [], ◌∷◌, length, ap, sym, subst, arith, length-append}
use Rattle.mint.specs.declared.node.Node.{Node}
use Rattle.wire_def.specs.declared.encoding.Back.{Back}
use Rattle.stub_codes.specs.Distinct.{AreSame}
use Rattle.stub_codes.specs.Lowered.{AreLowered}
use Rattle.stub_codes.specs.Stubs.{AreReplying, AreStubs, IsStub}
use Rattle.stub_codes.proofs.Chained.{SendsReplies, one_more, one_replying_more}
use Rattle.stub_codes.proofs.compile.stubs_of.Goals as goal

pub loop-i-preserved : goal.loop-i-preserved
loop-i-preserved c =
    let b = c.args.bound.now in
    let m = c.args.minor in
    let xs = c.loop-i.stubs in
    let x = c.in_ok-stub-in-Ok.stub in
    let list = c.in_ok-push-in-Ok.ensures.ok in
    let mine = subst (λ (n : ℕ). IsStub b m n x) c.in-Ok.ensures.1 c.in_ok-stub-in-Ok.ensures.is in
    record {
      many = omega (arith, ap length list, length-append xs (x ∷ []), c.loop-i.invariant.many);
      each = subst (AreStubs b m) (sym list) (one_more b m xs x c.loop-i.i c.loop-i.invariant.many c.loop-i.invariant.each mine);
      replying = λ (yes : c.args.answers ≡ true).
          subst (AreReplying b) (sym list)
          (one_replying_more b xs x c.loop-i.i c.loop-i.invariant.many (c.loop-i.invariant.replying yes)
          (subst (λ (n : ℕ). SendsReplies b n x) c.in-Ok.ensures.1 (c.in_ok-stub-in-Ok.ensures.replies yes)));
    }

pub stub_of-requires-clause-same : goal.stub_of-requires-clause-same
stub_of-requires-clause-same c =
    subst (λ (ns : List Node). AreSame c.in_ok-types.types.mint ns c.in_ok-types.types.ids) c.mint.ensures c.in_ok-types.ensures.same

pub bodies_of-requires-clause-same : goal.bodies_of-requires-clause-same
bodies_of-requires-clause-same c =
    subst (λ (ns : List Node). AreSame c.in_ok-types.types.mint ns c.in_ok-types.types.ids) c.mint.ensures c.in_ok-types.ensures.same

pub stub_of-requires-clause-lowered : goal.stub_of-requires-clause-lowered
stub_of-requires-clause-lowered c =
    subst (λ (k : Back). AreLowered k c.in_ok-types.types.mint c.in_ok-low.low) c.back.ensures c.in_ok-low.ensures
