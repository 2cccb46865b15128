use Rattle.std.proofs.Common.{drop}
use Rattle.pres.specs.Tables.{AreAscii}
use Rattle.pres.proofs.fields.are_ascii.Given as goal

-- where those that are left are of ASCII, all are
abbrev pub invariant-loop-name : goal.invariant-loop-name
invariant-loop-name l = AreAscii (drop l.name-index l.names) → AreAscii l.names
