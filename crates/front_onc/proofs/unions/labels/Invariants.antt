use Rattle.std.proofs.Common.{◌≡◌, drop}
use Rattle.front_onc.specs.Unions.{labels_on}
use Rattle.front_onc.proofs.unions.labels.Given as goal

abbrev pub invariant-loop-l : goal.invariant-loop-l
invariant-loop-l l = labels_on l.r.scope l.r.labels l.tag l.d l.initial.numbers.keys l.list
    ≡ labels_on l.r.scope l.r.labels l.tag l.d l.numbers.keys (drop l.l-index l.list)
