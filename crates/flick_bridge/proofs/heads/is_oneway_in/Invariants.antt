use Rattle.std.proofs.Common.{◌≡◌, drop, map}
use Rattle.std.specs.List.{list_any}
use Rattle.aoi.specs.Plain.{plain_operation}
use Rattle.flick_bridge.specs.Heads.{is_oneway_of}
use Rattle.flick_bridge.proofs.heads.is_oneway_in.Given as goal

-- What is sought is sought in the rest.
abbrev pub invariant-loop-op : goal.invariant-loop-op
invariant-loop-op l = list_any (is_oneway_of l.name) (map plain_operation l.ops)
    ≡ list_any (is_oneway_of l.name) (map plain_operation (drop l.op-index l.ops))
