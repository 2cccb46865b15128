use Rattle.std.proofs.Common.{◌∙◌, length, sym}
use Rattle.std.proofs.lemmas.Bool.{ltb-true}
use Rattle.json_shape.proofs.Sources.{raise_named}
use Rattle.json_shape.proofs.operations.raise_name.Goals as goal

pub returns-in_ok-name-in-Some : goal.returns-in_ok-name-in-Some
returns-in_ok-name-in-Some c =
    c.in_ok-name-in-Some.ensures ∙ c.get-in-Some.ensures ∙ raise_named c.args.raises.now c.args.k c.in-Some.raise.now
    (ltb-true c.args.k (length c.args.raises.now) (sym c.in-Some.ensures.lookup.0)) c.in-Some.ensures.lookup.1
