use Rattle.std.proofs.Common.{◌∙◌, length, sym}
use Rattle.std.proofs.lemmas.Bool.{ltb-true}
use Rattle.flick_texts.proofs.Naming.{type_named}
use Rattle.flick_texts.proofs.types.type_name.Goals as goal

pub returns-in-Some : goal.returns-in-Some
returns-in-Some c =
    sym c.parts.ensures ∙ type_named c.args.types.now c.args.k c.in-Some.field-0.now
    (ltb-true c.args.k (length c.args.types.now) (sym c.in-Some.ensures.lookup.0)) c.in-Some.ensures.lookup.1
