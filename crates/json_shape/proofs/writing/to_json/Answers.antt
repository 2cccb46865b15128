use Rattle.mint.specs.Values.{seen}
use Rattle.pres.specs.Faces.{face_at}
use Rattle.json_shape.proofs.Naming.{face_named, written_presents}
use Rattle.json_shape.proofs.writing.to_json.Goals as goal

pub returns-clause-presents : goal.returns-clause-presents
returns-clause-presents c =
    let named = face_named c.args.bound.now.nodes c.args.bound.now.shapes c.args.id c.ops-ops.ensures.stands.named in
    written_presents (face_at c.args.bound.now.nodes c.args.bound.now.shapes c.args.id) _ (seen c.args.value.now) c.json.result named
    c.in-Some.ensures.type_ c.requires.typed c.json.ensures
