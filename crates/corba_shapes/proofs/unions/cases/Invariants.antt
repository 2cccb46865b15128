use Rattle.std.proofs.Common.{◌≡◌, [], None, drop}
use Rattle.std.specs.Option.{option_map}
use Rattle.aoi.specs.Shapes.{seen}
use Rattle.idl_names.specs.Arms.{arms_held}
use Rattle.corba_shapes.specs.Unions.{cases_on}
use Rattle.corba_shapes.proofs.unions.cases.Given as goal

abbrev pub invariant-loop-c : goal.invariant-loop-c
invariant-loop-c l =
    cases_on l.labels.keys l.tag l.d
    (record { names = l.initial.scopes; numbers = l.initial.numbers.keys; arms = []; other = None }) l.list
    ≡ cases_on l.labels.keys l.tag l.d
    (record {
      names = l.scopes;
      numbers = l.numbers.keys;
      arms = arms_held l.arms;
      other =
          option_map (λ b. seen b.value) l.other;
    }) (drop l.c-index l.list)
