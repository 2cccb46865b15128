use Rattle.std.proofs.Common.{sym, ◌∙◌, bytes_eq}
use Rattle.pres.specs.declared.ops.Op.{Op}
use Rattle.json_shape.specs.Texts.{text_of}
use Rattle.json_shape.proofs.Seeking.{alike, never, is_called}
use Rattle.json_shape.proofs.operations.place_in.Goals as goal

pub returns-in-Some-clause-place : goal.returns-in-Some-clause-place
returns-in-Some-clause-place c =
    c.own_place.ensures.place
    ∙ sym (alike (is_called c.args.name.now c.args.text.now) (λ (o : Op). bytes_eq (text_of o.name) c.in-Some.rest.now)
    (λ (o : Op). c.in-Some.ensures.some o.name) 0 c.args.ops.now)

pub returns-in-None-clause-place : goal.returns-in-None-clause-place
returns-in-None-clause-place c =
    sym (never (is_called c.args.name.now c.args.text.now) (λ (o : Op). c.in-None.ensures.none o.name) 0 c.args.ops.now)
