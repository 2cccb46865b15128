use Rattle.std.proofs.Common.{◌≡◌, ◌≤◌, []}
use Rattle.kit_base.specs.Lines.{Advances, KnowsEnd, work}
use Rattle.kit_base.proofs.lines.Lines.step_on.Given as goal

abbrev pub invariant-loop-self : goal.invariant-loop-self
invariant-loop-self g l = record {
  lines : Advances (g.S.Source.left l.initial.source) (g.S.Source.left l.source) l.initial.self l.self [];
  knows_end : KnowsEnd l.initial.self (g.S.Source.left l.initial.source) → KnowsEnd l.self (g.S.Source.left l.source);
  stands : g.S.Source.faults l.initial.source ≡ g.S.Source.faults l.source;
  fewer : work l.self ≤ work l.initial.self;
  same : l.self.error ≡ l.initial.self.error;
}

abbrev pub decreases-loop-self : goal.decreases-loop-self
decreases-loop-self g l = work l.self
