-- Which end of the work a status tells.
use Rattle.std.proofs.Common.{◌≡◌, ◌≢◌, ◌<◌, ◌≤◌, Bool, true, false, refl, ap, arith}
use Rattle.std.specs.Prelude.{if◌then◌else◌}
use Rattle.kit_base.specs.declared.lines.LineErr.{LineErr}
use Rattle.kit_base.specs.declared.lines.LineErr.TheVariants.{Failed, TooMuch, NoMemory}
use Rattle.flick_top.specs.declared.status.Status.{Status}
use Rattle.flick_top.specs.declared.status.Status.TheVariants.{Done, Refused}
use Rattle.flick_top.specs.Status.{number_of, file_refused, sink_failed}
use Rattle.flick_top.specs.Turn.{status_at}

pub failed-of : (e : LineErr) → number_of (status_at e) ≤ 6 → e ≡ Failed
failed-of Failed h = refl
failed-of TooMuch h = absurd (omega arith)
failed-of NoMemory h = absurd (omega arith)

pub too_much-of : (e : LineErr) → number_of (status_at e) ≡ 8 → e ≡ TooMuch
too_much-of Failed h = absurd (omega arith)
too_much-of TooMuch h = refl
too_much-of NoMemory h = absurd (omega arith)

-- an error ends as no output does, and is none of the sink
pub above-output : (e : LineErr) (status : Status) → status ≡ status_at e → file_refused < number_of status
above-output Failed status is = omega (arith, ap number_of is)
above-output TooMuch status is = omega (arith, ap number_of is)
above-output NoMemory status is = omega (arith, ap number_of is)

pub not-sink : (e : LineErr) (status : Status) → status ≡ status_at e → number_of status ≢ sink_failed
not-sink Failed status is = λ five. omega (arith, ap number_of is, five)
not-sink TooMuch status is = λ five. omega (arith, ap number_of is, five)
not-sink NoMemory status is = λ five. omega (arith, ap number_of is, five)

-- the end of work that was done
pub ends-as : (b : Bool) (status : Status) → status ≡ (if b then Refused else Done) → number_of status ≡ (if b then 1 else 0)
ends-as true status is = ap number_of is
ends-as false status is = ap number_of is
