use Rattle.std.proofs.Common.{◌≡◌, drop}
use Rattle.front_corba.specs.Held.{body}
use Rattle.front_corba.specs.Attributes.{attribute_names_on, attributes_on}
use Rattle.front_corba.proofs.attributes.attributes.Given as goal

abbrev pub invariant-loop-item : goal.invariant-loop-item
invariant-loop-item l = attributes_on l.d l.home (body l.initial.shapes l.initial.ops) l.a
    ≡ attribute_names_on l.d l.home l.a.readonly l.form (body l.shapes l.ops) (drop l.item-index l.item-items)
