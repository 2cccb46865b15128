use Rattle.std.proofs.Common.{◌≡◌, ◌≤◌, ◌-◌, ◌+◌, [], false}
use Rattle.wire_frames.specs.Reading.{Advances, work}
use Rattle.wire_frames.proofs.messages.Messages.read_on.Given as goal

-- what was read so far, without a part
abbrev pub invariant-loop-self : goal.invariant-loop-self
invariant-loop-self g l = record {
  read : Advances (g.S.Source.left l.initial.source) (g.S.Source.left l.source) l.initial.self l.self [];
  going : l.self.over ≡ false;
  fewer : work l.self ≤ work l.initial.self;
  reads : g.S.Source.faults l.initial.source ≡ g.S.Source.faults l.source;
}

abbrev pub decreases-loop-self : goal.decreases-loop-self
decreases-loop-self g l = l.self.most + 2 - l.self.taken
