use Rattle.std.proofs.Common.{◌≡◌, drop, map}
use Rattle.std.specs.List.{list_any}
use Rattle.aoi.specs.Plain.{PlainRaise, plain_raise}
use Rattle.pres.specs.Faults.{is_long}
use Rattle.pres.proofs.faults.is_long_id.Given as goal

-- none so far
abbrev pub invariant-loop-raise : goal.invariant-loop-raise
invariant-loop-raise l = list_any (λ (r : PlainRaise). is_long r.id) (map plain_raise l.raises)
    ≡ list_any (λ (r : PlainRaise). is_long r.id) (map plain_raise (drop l.raise-index l.raises))
