use Rattle.std.proofs.Common.{sym, ◌∙◌}
use Rattle.stub_rooms.proofs.RoomsEights.{aligned_shown, unaligned_shown}
use Rattle.stub_rooms.proofs.covers_leaves.leave_align.Goals as goal

pub returns-then-is_width : goal.returns-then-is_width
returns-then-is_width c = aligned_shown c.args.a _ _ (sym c.is_width.ensures ∙ c.if-is_width.true) c.aligned.ensures

pub returns-else-is_width : goal.returns-else-is_width
returns-else-is_width c = unaligned_shown c.args.a _ (sym c.is_width.ensures ∙ c.if-is_width.false)
