-- Counts that were worked out by hand.
use Rattle.std.proofs.Common.{◌≡◌, Some, refl, codes}
use Rattle.std.specs.Fmt.{digits}
use Rattle.flick_lines.specs.Counted.{counts_text}

-- checks, moves, stores and rows
counts : counts_text (Some (record { checks = 1; moves = 2; stores = 3; rows = 4 })) ≡ codes " 1 2 3 4"
unfolding digits
counts = refl
