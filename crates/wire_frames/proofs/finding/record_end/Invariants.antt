use Rattle.std.proofs.Common.{◌-◌, length}
use Rattle.wire_frames.specs.Passed.{Passed}
use Rattle.wire_frames.proofs.finding.record_end.Given as goal

-- the fragments before the mark are whole
abbrev pub invariant-loop-header : goal.invariant-loop-header
invariant-loop-header l = Passed l.kept l.mark.at l.mark.sum

abbrev pub decreases-loop-header : goal.decreases-loop-header
decreases-loop-header l = length l.kept - l.mark.at
