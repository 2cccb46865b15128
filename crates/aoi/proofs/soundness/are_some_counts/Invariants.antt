use Rattle.std.proofs.Common.{◌≡◌, drop}
use Rattle.std.specs.List.{list_all}
use Rattle.aoi.specs.Sound.{is_some_count}
use Rattle.aoi.proofs.soundness.are_some_counts.Given as goal

abbrev pub invariant-loop-count : goal.invariant-loop-count
invariant-loop-count l = list_all is_some_count l.counts ≡ list_all is_some_count (drop l.count-index l.counts)
