use Rattle.std.proofs.Common.{◌≡◌, ◌++◌, [], refl, ◌∙◌}
use Rattle.aoi.specs.Plain.{plain_operation}
use Rattle.pres.specs.Faces.{values, parts_at}
use Rattle.pres.specs.Made.{made, made_inside}
use Rattle.pres.specs.Offers.{answer_of}
use Rattle.pres.specs.Drafts.{drawn, known, Grows}
use Rattle.pres.proofs.Drawn.{grows_twice, node_after, drawn_as, cause_last, on_ok, if_ok}
use Rattle.pres.proofs.Exchange.{answer_by}
use Rattle.pres.proofs.draft.Draft.draw_answer.Goals as goal

answer_is : (c : goal.After-drop-outs-inside-2)
    → values (parts_at (drawn c.draw_fields.new.self) [] c.append.new.self)
    ≡ answer_of (known c.args.self.now) (plain_operation c.args.op.now)
answer_is c =
    let g = rw c.get.ensures at c.in_ok-id.ensures.grows in
    let h = rw (c.as_slice.ensures, g.types) at c.in_ok-outs.ensures.grows in
    let ds = rw (c.as_slice.ensures, g.types) at c.in_ok-outs.ensures.ids in
    let d = rw c.get.ensures at c.in_ok-id.ensures.id in
    answer_by _ _ _ (plain_operation c.args.op.now) c.in_ok-id.id c.in_ok-outs.outs _ (known c.args.self.now) h d ds
    (c.in_ok-append.ensures.ok ∙ rw (c.in_ok-push.ensures.ok, c.as_slice-2.ensures, c.new-ids.ensures) refl)

both_grow : (c : goal.After-drop-outs-inside-2)
    → Grows c.args.self.now c.draw_fields.new.self (made (known c.args.self.now) (plain_operation c.args.op.now).result
    ++ made_inside (known c.args.self.now) (plain_operation c.args.op.now).outs)
both_grow c =
    let g = rw c.get.ensures at c.in_ok-id.ensures.grows in
    grows_twice _ _ _ _ _ g (rw (c.as_slice.ensures, g.types) at c.in_ok-outs.ensures.grows)

pub returns-clause-grows : goal.returns-clause-grows
returns-clause-grows c = on_ok _ _ _ (node_after _ _ _ _ _ _ (answer_is c) (both_grow c)) c.push-2.ensures.grows

pub returns-clause-id : goal.returns-clause-id
returns-clause-id c = if_ok _ _ _ (λ id. drawn_as _ id _ _ (answer_is c)) c.push-2.ensures.id

pub returns-clause-cause : goal.returns-clause-cause
returns-clause-cause c =
    let fs = known c.args.self.now in
    let op = plain_operation c.args.op.now in
    cause_last c.push-2.result (drawn c.args.self.now) (drawn c.draw_fields.new.self) (made fs op.result ++ made_inside fs op.outs)
    (values (parts_at (drawn c.draw_fields.new.self) [] c.append.new.self)) (answer_of fs op) (both_grow c).nodes
    c.push-2.ensures.cause
