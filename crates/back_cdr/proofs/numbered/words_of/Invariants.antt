use Rattle.std.proofs.Common.{◌≡◌, ◌++◌, map, drop}
use Rattle.aoi.specs.Plain.{plain_operation}
use Rattle.back_cdr.specs.Offered.{names_of}
use Rattle.back_cdr.proofs.numbered.words_of.Given as goal

-- the names so far, and those of the operations that are left
abbrev pub invariant-loop-op : goal.invariant-loop-op
invariant-loop-op l = names_of (map plain_operation l.ops) ≡ l.words ++ names_of (map plain_operation (drop l.op-index l.ops))
