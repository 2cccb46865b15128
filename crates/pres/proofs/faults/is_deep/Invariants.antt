use Rattle.std.proofs.Common.{◌≡◌, drop, nat_lt}
use Rattle.std.specs.List.{list_any}
use Rattle.pres.specs.declared.sizes.Size.{Size}
use Rattle.pres.proofs.faults.is_deep.Given as goal

-- none so far
abbrev pub invariant-loop-size : goal.invariant-loop-size
invariant-loop-size l = list_any (λ (s : Size). nat_lt 32 s.depth) l.sizes
    ≡ list_any (λ (s : Size). nat_lt 32 s.depth) (drop l.size-index l.sizes)
