use Rattle.std.proofs.Common.{◌≡◌, map, drop}
use Rattle.aoi.specs.Shapes.{seen_field}
use Rattle.corba_shapes.specs.Fields.{fields_on}
use Rattle.corba_shapes.proofs.fields.add_fields.Given as goal

abbrev pub invariant-loop-declarator : goal.invariant-loop-declarator
invariant-loop-declarator l =
    fields_on l.d l.form (record { names = l.initial.scopes; fields = map seen_field l.initial.fields }) l.list
    ≡ fields_on l.d l.form (record { names = l.scopes; fields = map seen_field l.fields }) (drop l.declarator-index l.list)
