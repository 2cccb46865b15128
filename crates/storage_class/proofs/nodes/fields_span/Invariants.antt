use Rattle.std.proofs.Common.{◌≡◌, drop}
use Rattle.mint.specs.Types.{Tys, unfolded, fields_at}
use Rattle.storage_class.specs.Spans.{are_fixed, chain, sum_of}
use Rattle.storage_class.proofs.nodes.fields_span.Given as goal

abbrev pub invariant-loop-i : goal.invariant-loop-i
invariant-loop-i l = let rest : Tys = fields_at (unfolded l.mint) (drop l.i l.ids) in
    record { fixed : l.fixed ≡ are_fixed l.fn.enc rest; chain : l.chain ≡ chain l.fn.enc rest; sum : l.sum ≡ sum_of l.fn.enc rest }
