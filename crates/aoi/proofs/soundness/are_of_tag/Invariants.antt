use Rattle.std.proofs.Common.{◌≡◌, map, drop}
use Rattle.std.specs.List.{list_all}
use Rattle.aoi.specs.Shapes.{seen}
use Rattle.aoi.specs.Sound.{is_of_tag}
use Rattle.aoi.proofs.soundness.are_of_tag.Given as goal

abbrev pub invariant-loop-n : goal.invariant-loop-n
invariant-loop-n l = list_all (is_of_tag (seen l.tag)) (map (λ a. a.0) l.arms)
    ≡ list_all (is_of_tag (seen l.tag)) (map (λ a. a.0) (drop l.n-index l.arms))
