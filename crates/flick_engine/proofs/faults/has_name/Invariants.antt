use Rattle.std.proofs.Common.{◌≡◌, drop, map}
use Rattle.std.specs.List.{list_any}
use Rattle.std.specs.Str.{bytes_eq}
use Rattle.aoi.specs.Plain.{PlainInterface, plain_interface}
use Rattle.flick_engine.proofs.faults.has_name.Given as goal

-- none so far
abbrev pub invariant-loop-i : goal.invariant-loop-i
invariant-loop-i l = list_any (λ (i : PlainInterface). bytes_eq i.name l.key) (map plain_interface l.interfaces)
    ≡ list_any (λ (i : PlainInterface). bytes_eq i.name l.key) (map plain_interface (drop l.i-index l.interfaces))
