use Rattle.std.proofs.Common.{◌≤◌, ◌+◌, length}
use Rattle.flick_check.specs.Checked.{Goes}
use Rattle.flick_check.proofs.answers.check_stubs.Given as goal

-- What answers the rest answers the text, after what was put.
abbrev pub invariant-parts : goal.invariant-parts
invariant-parts l = record {
  goes : Goes l.engine l.fn.text l.line l.rest l.out;
  within : l.line + length l.rest ≤ 1 + length l.fn.text;
}

abbrev pub decreases-parts : goal.decreases-parts
decreases-parts l = length l.rest
