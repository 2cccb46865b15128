use Rattle.std.proofs.Common.{◌≡◌, drop}
use Rattle.std.specs.List.{list_all}
use Rattle.mint.specs.declared.kind.Kind.TheVariants as kind
use Rattle.mint.specs.Kinds.{in_range}
use Rattle.mint.proofs.labelling.are_ranged.Given as goal

abbrev pub invariant-loop-label : goal.invariant-loop-label
invariant-loop-label l = list_all (in_range kind.I32) l.labels ≡ list_all (in_range kind.I32) (drop l.label-index l.labels)
