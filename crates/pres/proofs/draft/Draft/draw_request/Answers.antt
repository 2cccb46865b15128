use Rattle.aoi.specs.Shapes as aoi
use Rattle.pres.specs.Drafts.{known}
use Rattle.pres.proofs.Drawn.{values_by, node_after, drawn_as, on_ok, if_ok}
use Rattle.pres.proofs.draft.Draft.draw_request.Goals as goal

pub returns-clause-grows : goal.returns-clause-grows
returns-clause-grows c =
    let got = rw c.as_slice.ensures at c.in_ok-ids.ensures.ids in
    on_ok _ _ _ (node_after _ _ _ _ _ _ (values_by c.draw_fields.new.self (known c.args.self.now) _ (aoi.members c.args.op.now.ins) got)
    (rw c.as_slice.ensures at c.in_ok-ids.ensures.grows)) c.push.ensures.grows

pub returns-clause-id : goal.returns-clause-id
returns-clause-id c =
    let got = rw c.as_slice.ensures at c.in_ok-ids.ensures.ids in
    if_ok _ _ _
    (λ id.
    drawn_as _ id _ _ (values_by c.draw_fields.new.self (known c.args.self.now) _ (aoi.members c.args.op.now.ins) got))
    c.push.ensures.id
