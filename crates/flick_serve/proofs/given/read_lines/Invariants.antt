use Rattle.std.proofs.Common.{◌+◌, ◌≤◌, length}
use Rattle.std.specs.Option.{option_map_or}
use Rattle.skeleton.specs.TableSkeleton.{IsKept}
use Rattle.skeleton.proofs.Keeping.{with_table}
use Rattle.flick_serve.specs.Given.{given_in, lines_of}
use Rattle.flick_serve.proofs.Reading.{GoesOn, lines_left}
use Rattle.flick_serve.proofs.given.read_lines.Given as goal

-- what the lines that are left give after the replies so far is what the text gives
abbrev pub invariant-lines : goal.invariant-lines
invariant-lines l = record {
  goes_on : GoesOn l.engine.binding (record { number = 1; given = given_in l.fn.replies; lines = lines_of l.fn.text })
      (record { number = l.number; given = given_in l.replies; lines = lines_left l.rest });
  kept : IsKept (with_table l.engine.binding l.replies);
  within : l.number + option_map_or (λ rest. length rest.now + 1) l.rest 0 ≤ length l.fn.text + 2;
}

abbrev pub decreases-lines : goal.decreases-lines
decreases-lines l = option_map_or (λ rest. length rest.now + 1) l.rest 0
