use Rattle.std.proofs.Common.{◌≡◌, drop}
use Rattle.mint.specs.Types.{unfolded, arms_at}
use Rattle.storage_class.specs.Spans.{arms_span}
use Rattle.storage_class.proofs.nodes.arms_span.Given as goal

abbrev pub invariant-loop-i : goal.invariant-loop-i
invariant-loop-i l = l.widest ≡ arms_span l.fn.enc (arms_at (unfolded l.mint) (drop l.i l.arms) l.fn.other)
