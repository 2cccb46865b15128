use Rattle.std.proofs.Common.{◌∙◌, ap, rules, sym}
use Rattle.aoi.specs.declared.types.Field.{Field}
use Rattle.pres.proofs.Fielded.{name_there, place_within}
use Rattle.pres.proofs.fields.name_at.Goals as goal

pub bounds-fields-i : goal.bounds-fields-i
bounds-fields-i c = place_within c.args.fields.now c.args.i c.requires

pub offset_bounds-fields-i : goal.offset_bounds-fields-i
offset_bounds-fields-i c = search (rules, place_within c.args.fields.now c.args.i c.requires)

pub returns : goal.returns
returns c =
    c.as_slice.ensures ∙ ap (λ (f : Field). f.name) (sym c.index-fields-i.is)
    ∙ name_there c.args.fields.now c.args.i c.index-fields-i.result (place_within c.args.fields.now c.args.i c.requires) c.index-fields-i.is
