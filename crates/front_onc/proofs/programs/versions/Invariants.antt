use Rattle.std.proofs.Common.{◌≡◌, [], drop}
use Rattle.front_onc.specs.Held.{state}
use Rattle.front_onc.specs.Programs.{versions_on}
use Rattle.front_onc.proofs.programs.versions.Given as goal

abbrev pub invariant-loop-v : goal.invariant-loop-v
invariant-loop-v l = record {
  scope : l.r.scope ≡ l.initial.r.scope;
  ahead : versions_on l.program l.number [] (state l.initial.r) l.list
      ≡ versions_on l.program l.number l.names (state l.r) (drop l.v-index l.list);
}
