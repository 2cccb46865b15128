use Rattle.std.proofs.Common.{ℕ, List, length}
use Rattle.wire_frames.specs.First.{record_from, IsMessage}
use Rattle.wire_frames.proofs.Gathering.{Joins}
use Rattle.wire_frames.proofs.joining.joined.Given as goal

-- what is joined so far, whatever the message
abbrev pub invariant-loop-header : goal.invariant-loop-header
invariant-loop-header l = (message : List ℕ) × Joins message l.rest l.message × IsMessage (record_from 0 l.kept) message l.used

abbrev pub decreases-loop-header : goal.decreases-loop-header
decreases-loop-header l = length l.rest
