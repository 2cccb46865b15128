use Rattle.std.proofs.Common.{arith}
use Rattle.pres.specs.Drafts.{drawn}
use Rattle.pres.proofs.Measures.{sizes_on}
use Rattle.pres.proofs.draft.Draft.sizes.Goals as goal

pub loop-id-preserved : goal.loop-id-preserved
loop-id-preserved c =
    sizes_on (drawn c.args.self.now) c.loop-id.id c.entry.result.now.node c.entry.result.now.shape _ _ _ _
    (omega (arith, c.loop-id-test.true, c.len-id-end.ensures.value)) c.entry.ensures.below c.entry.ensures.is c.deref.ensures.value
    c.loop-id.invariant c.size_at-size.ensures c.in_ok-push.ensures.items
