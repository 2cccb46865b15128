use Rattle.std.proofs.Common.{◌≡◌, ◌+◌, drop}
use Rattle.std.specs.Option.{option_map}
use Rattle.std.specs.Prelude.{false}
use Rattle.idl_lex.specs.Quotes.{string_count}
use Rattle.idl_lex.proofs.quotes.string_count.Given as goal

abbrev pub invariant-octets : goal.invariant-octets
invariant-octets l = string_count false l.text ≡ option_map (λ n. l.i + n) (string_count l.after_backslash (drop l.i l.text))
