use Rattle.std.proofs.Common.{◌≡◌, ◌++◌, drop}
use Rattle.stub_print.specs.Words.{points}
use Rattle.stub_print.proofs.words.put_points.Given as goal

-- what is put, and what is left
abbrev pub invariant-loop-field : goal.invariant-loop-field
invariant-loop-field l = l.fn.out ++ points l.fields ≡ l.out ++ points (drop l.field-index l.fields)
