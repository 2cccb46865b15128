use Rattle.std.proofs.Common.{◌≡◌, drop}
use Rattle.std.specs.List.{list_any}
use Rattle.std.specs.Str.{bytes_eq}
use Rattle.aoi.specs.Shapes.{members}
use Rattle.aoi.specs.Sound.{names_of}
use Rattle.aoi.proofs.distinct.is_field.Given as goal

abbrev pub invariant-loop-field : goal.invariant-loop-field
invariant-loop-field l = list_any (λ m. bytes_eq m l.name) (names_of (members l.fields))
    ≡ list_any (λ m. bytes_eq m l.name) (names_of (members (drop l.field-index l.fields)))
