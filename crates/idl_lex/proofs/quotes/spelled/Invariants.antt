use Rattle.std.proofs.Common.{◌≡◌, ◌++◌, drop}
use Rattle.std.specs.Prelude.{false}
use Rattle.idl_lex.specs.Quotes.{spelled}
use Rattle.idl_lex.proofs.quotes.spelled.Given as goal

abbrev pub invariant-octets : goal.invariant-octets
invariant-octets l = spelled false l.body ≡ l.codes ++ spelled l.after_backslash (drop l.octet-index l.body)
