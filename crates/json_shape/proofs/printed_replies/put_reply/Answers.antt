use Rattle.std.proofs.Common.{◌≡◌, ℕ, List, map, rules, subst}
use Rattle.std.specs.Prelude.{OnOk}
use Rattle.aoi.specs.Plain.{plain_raise}
use Rattle.pres.specs.Faces.{face_at}
use Rattle.json_shape.specs.Operations.{dotted}
use Rattle.json_shape.specs.Printed.{tokens_of, Adds}
use Rattle.json_shape.specs.Replies.{outcome_members, reply_named}
use Rattle.json_shape.proofs.printed_replies.put_reply.Goals as goal

pub returns : goal.returns
returns c =
    let b = c.args.bound.now in
    let op = c.args.op.now in
    let members = outcome_members (map plain_raise c.args.raises.now) (face_at b.nodes b.shapes op.reply) c.args.outcome.now in
    let same : c.as_slice-2.result.now ≡ dotted b.unit.interfaces op = search rules in
    subst (λ (name : List ℕ). OnOk c.put_record.result (Adds c.args.out.now c.put_record.new.out
    (tokens_of (reply_named b.back c.args.head.now name members)))) same c.put_record.ensures
