use Rattle.std.proofs.Common.{◌≡◌, [], map, drop}
use Rattle.aoi.specs.Shapes.{seen_field}
use Rattle.front_onc.specs.Declarations.{members_on}
use Rattle.front_onc.proofs.structs.members.Given as goal

abbrev pub invariant-loop-member : goal.invariant-loop-member
invariant-loop-member l = record {
  names : l.names ≡ map (λ f. f.0) (map seen_field l.fields);
  ahead : members_on l.scope l.number [] l.members ≡ members_on l.scope l.number (map seen_field l.fields) (drop l.member-index l.members);
}
