use Rattle.std.proofs.Common.{refl, arith}
use Rattle.stub_receiver.proofs.Drafting.{fresh_turn, fresh_end}
use Rattle.stub_receiver.proofs.draft.+fresh.Goals as goal

pub all_fresh-loop-field-preserved : goal.all_fresh-loop-field-preserved
all_fresh-loop-field-preserved t c = fresh_turn c.args.mint.now c.as_slice-field-items.result.now c.loop-field.field-index _
    c.loop-field.drafts.items _ c.in_ok-fresh.field-0 _ c.loop-field-test.true refl c.in_ok-fresh.ensures c.in_ok-push.ensures.items
    c.loop-field.invariant

pub all_fresh-returns : goal.all_fresh-returns
all_fresh-returns t c = fresh_end c.args.mint.now c.args.ids.now c.as_slice-field-items.result.now c.loop-field.field-index _
    c.as_slice-field-items.ensures (omega (arith, c.loop-field-test.false)) c.loop-field.invariant
