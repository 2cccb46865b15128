use Rattle.std.proofs.Common.{◌≡◌, ◌+◌, drop}
use Rattle.std.specs.Option.{option_map}
use Rattle.idl_lex.specs.Pieces.{count_to_close}
use Rattle.idl_lex.proofs.pieces.count_to_close.Given as goal

abbrev pub invariant-loop-i : goal.invariant-loop-i
invariant-loop-i l = count_to_close l.text ≡ option_map (λ n. l.i + n) (count_to_close (drop l.i l.text))
