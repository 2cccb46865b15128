use Rattle.std.proofs.Common.{rules}
use Rattle.stub_cover.specs.Covers.{most_turns}
use Rattle.stub_rooms.proofs.covers_standing.is_few.Goals as goal

pub returns : goal.returns
unfolding most_turns
returns c = search rules
