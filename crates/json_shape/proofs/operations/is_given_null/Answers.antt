use Rattle.std.proofs.Common.{◌∙◌, length, sym}
use Rattle.std.proofs.lemmas.Bool.{ltb-true}
use Rattle.std.proofs.lemmas.List.{length-map}
use Rattle.aoi.specs.Plain.{plain_operation, plain_interface}
use Rattle.json_shape.proofs.Homes.{null_here}
use Rattle.json_shape.proofs.operations.is_given_null.Goals as goal

pub returns-in-Some : goal.returns-in-Some
returns-in-Some c =
    null_here c.args.back c.args.k (plain_interface c.args.interface.now) c.args.ops.now c.len.result c.in-Some.op.now c.requires
    (c.len.ensures ∙ sym (length-map c.args.interface.now.ops plain_operation))
    (ltb-true c.len.result (length c.args.ops.now) (sym c.in-Some.ensures.lookup.0)) c.in-Some.ensures.lookup.1
