use Rattle.std.proofs.Common.{◌+◌, ◌*◌}
use Rattle.stub_receiver.specs.Drawn.{drawn, all_drawn}
use Rattle.stub_receiver.proofs.Becoming.{draft_size, drafts_size, Settled}
use Rattle.stub_receiver.proofs.settling.+settle.Given as goal

abbrev pub decreases-settle : goal.decreases-settle
decreases-settle l = 2 * draft_size (drawn l.mint.now l.draft)

abbrev pub decreases-settle_all : goal.decreases-settle_all
decreases-settle_all l = 2 * drafts_size (all_drawn l.mint.now l.fields.items) + 1

abbrev pub invariant-settle_all-loop-i : goal.invariant-settle_all-loop-i
invariant-settle_all-loop-i l = Settled l.mint l.fn.fields.items l.rest.items l.values l.i
