use Rattle.std.proofs.Common.{◌≡◌, ◌≤◌, [], map, length, drop}
use Rattle.aoi.specs.Plain.{plain_operation}
use Rattle.front_onc.specs.Held.{state}
use Rattle.front_onc.specs.Programs.{procedures_on}
use Rattle.front_onc.proofs.procedures.procedures.Given as goal

abbrev pub invariant-loop-p : goal.invariant-loop-p
invariant-loop-p l = record {
  few : length l.ops ≤ 256;
  scope : l.r.scope ≡ l.initial.r.scope;
  versions : l.r.versions ≡ l.initial.r.versions;
  ahead : procedures_on (state l.initial.r) (record { names = l.initial.names; numbers = l.initial.numbers.keys; ops = [] }) l.list
      ≡ procedures_on (state l.r) (record { names = l.names; numbers = l.numbers.keys; ops = map plain_operation l.ops })
      (drop l.p-index l.list);
}
