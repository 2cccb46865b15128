use Rattle.std.proofs.Common.{sym, ◌∙◌}
use Rattle.stub_rooms.proofs.RoomsEights.{padded_follows, unpadded_follows}
use Rattle.stub_rooms.proofs.covers_standing.run_align.Goals as goal

pub returns-then-is_width : goal.returns-then-is_width
returns-then-is_width c = padded_follows c.args.a _ _ (sym c.is_width.ensures ∙ c.if-is_width.true) c.padded.ensures

pub returns-else-is_width : goal.returns-else-is_width
returns-else-is_width c = unpadded_follows c.args.a _ (sym c.is_width.ensures ∙ c.if-is_width.false)
