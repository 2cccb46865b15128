use Rattle.std.proofs.Common.{◌≡◌, drop}
use Rattle.kit_base.specs.Decimal.{is_listed}
use Rattle.kit_base.proofs.decimal.is_listed.Given as goal

abbrev pub invariant-loop-word : goal.invariant-loop-word
invariant-loop-word l = is_listed l.n (drop l.word-index l.word-items) ≡ is_listed l.n l.words
