use Rattle.std.proofs.Common.{◌≡◌, ◌+◌, drop}
use Rattle.flick_check.specs.Files as files
use Rattle.flick_check.proofs.files.passed.Given as goal

-- What is passed is passed in the rest.
abbrev pub invariant-loop-i : goal.invariant-loop-i
invariant-loop-i l = files.passed l.text ≡ l.i + files.passed (drop l.i l.text)
