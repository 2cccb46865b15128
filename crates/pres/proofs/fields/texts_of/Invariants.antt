use Rattle.std.proofs.Common.{◌≡◌, ◌++◌, map, string_bytes, drop}
use Rattle.pres.specs.Tables.{texts_of}
use Rattle.pres.proofs.fields.texts_of.Given as goal

-- the strings so far, and those of the rest, are all
abbrev pub invariant-loop-name : goal.invariant-loop-name
invariant-loop-name l = map string_bytes l.texts ++ texts_of (drop l.name-index l.names) ≡ texts_of l.names
