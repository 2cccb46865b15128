use Rattle.std.proofs.Common.{◌≡◌, ◌-◌}
use Rattle.giop_head.specs.Contexts.{pass_many}
use Rattle.giop_head.proofs.contexts.many.Given as goal

-- what is left is read as the whole
abbrev pub invariant-loop-i : goal.invariant-loop-i
invariant-loop-i l = pass_many l.order l.n l.fn.at.place l.fn.at.rest.now ≡ pass_many l.order (l.n - l._i) l.at.place l.at.rest.now
