use Rattle.std.proofs.Common.{◌∙◌, length, sym}
use Rattle.std.proofs.lemmas.Bool.{ltb-true}
use Rattle.json_shape.proofs.Sources.{interface_named}
use Rattle.flick_check.proofs.names.interface_name.Goals as goal

pub returns-in-Some : goal.returns-in-Some
returns-in-Some c =
    c.as_slice.ensures ∙ interface_named c.args.interfaces.now c.args.k c.in-Some.interface.now
    (ltb-true c.args.k (length c.args.interfaces.now) (sym c.in-Some.ensures.lookup.0)) c.in-Some.ensures.lookup.1
