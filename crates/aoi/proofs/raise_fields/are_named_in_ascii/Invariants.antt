use Rattle.std.proofs.Common.{drop}
use Rattle.aoi.specs.Shapes.{members}
use Rattle.aoi.specs.Names.{AreAscii, names_of}
use Rattle.aoi.proofs.raise_fields.are_named_in_ascii.Given as goal

-- where the names of those that are left are of ASCII, all are
abbrev pub invariant-loop-field : goal.invariant-loop-field
invariant-loop-field l = AreAscii (names_of (members (drop l.field-index l.fields))) → AreAscii (names_of (members l.fields))
