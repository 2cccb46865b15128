use Rattle.std.proofs.Common.{◌≡◌, drop, map}
use Rattle.std.specs.List.{list_all}
use Rattle.mint.specs.Typed.{is_scalar}
use Rattle.mint.specs.Types.{scalar_of}
use Rattle.mint.proofs.labelling.are_in_tag.Given as goal

abbrev pub invariant-loop-n : goal.invariant-loop-n
invariant-loop-n l = list_all (is_scalar (scalar_of l.tag)) (map (λ a. a.0) l.arms)
    ≡ list_all (is_scalar (scalar_of l.tag)) (map (λ a. a.0) (drop l.n-index l.arms))
