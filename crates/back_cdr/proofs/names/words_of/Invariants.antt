use Rattle.std.proofs.Common.{◌≡◌, ◌++◌, drop}
use Rattle.back_cdr.specs.Offered.{ids_of}
use Rattle.back_cdr.proofs.names.words_of.Given as goal

-- the ids so far, and those of the exceptions that are left
abbrev pub invariant-loop-raise : goal.invariant-loop-raise
invariant-loop-raise l = ids_of l.raises ≡ l.words ++ ids_of (drop l.raise-index l.raises)
