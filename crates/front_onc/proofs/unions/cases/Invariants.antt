use Rattle.std.proofs.Common.{◌≡◌, [], drop}
use Rattle.idl_names.specs.Arms.{arms_held}
use Rattle.front_onc.specs.Unions.{cases_on}
use Rattle.front_onc.proofs.unions.cases.Given as goal

abbrev pub invariant-loop-c : goal.invariant-loop-c
invariant-loop-c l =
    cases_on l.r.scope l.r.labels l.tag l.d (record { numbers = l.initial.numbers.keys; names = l.initial.names; arms = [] }) l.list
    ≡ cases_on l.r.scope l.r.labels l.tag l.d
    (record { numbers = l.numbers.keys; names = l.names; arms = arms_held l.arms }) (drop l.c-index l.list)
