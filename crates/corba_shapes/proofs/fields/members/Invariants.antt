use Rattle.std.proofs.Common.{◌≡◌, [], map, drop}
use Rattle.aoi.specs.Shapes.{seen_field}
use Rattle.corba_shapes.specs.Fields.{members_on}
use Rattle.corba_shapes.proofs.fields.members.Given as goal

abbrev pub invariant-loop-member : goal.invariant-loop-member
invariant-loop-member l = members_on l.d (record { names = l.initial.scopes; fields = [] }) l.list
    ≡ members_on l.d (record { names = l.scopes; fields = map seen_field l.fields }) (drop l.member-index l.list)
