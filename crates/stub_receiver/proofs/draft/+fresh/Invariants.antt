use Rattle.std.proofs.Common.{◌≡◌, ◌+◌, drop}
use Rattle.mint.specs.Types.{unfolded, fields_at}
use Rattle.cast_stub.specs.Draft.{all_fresh}
use Rattle.stub_receiver.specs.Drawn.{all_drawn}
use Rattle.stub_receiver.proofs.Drafting.{drafts_joined}
use Rattle.stub_receiver.proofs.draft.+fresh.Given as goal

abbrev pub decreases-all_fresh : goal.decreases-all_fresh
decreases-all_fresh l = l.id + l.id

abbrev pub decreases-fresh : goal.decreases-fresh
decreases-fresh l = l.id + l.id + 1

abbrev pub invariant-all_fresh-loop-field : goal.invariant-all_fresh-loop-field
invariant-all_fresh-loop-field l =
    drafts_joined (all_drawn l.mint l.drafts.items) (all_fresh (fields_at (unfolded l.mint) (drop l.field-index l.field-items)))
    ≡ all_fresh (fields_at (unfolded l.mint) l.field-items)
