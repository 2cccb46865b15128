use Rattle.std.proofs.Common.{◌≡◌, ◌++◌, drop}
use Rattle.aoi.specs.Shapes.{members}
use Rattle.aoi.specs.Sound.{names_of}
use Rattle.pres.proofs.naming.field_words.Given as goal

-- the names so far, and of what is left
abbrev pub invariant-loop-field : goal.invariant-loop-field
invariant-loop-field l = l.names ++ names_of (members (drop l.field-index l.fields)) ≡ names_of (members l.fields)
