-- What is read of a message that was made.
use Rattle.std.proofs.Common.{◌≡◌, ℕ, List, Result, Ok, Err, IfOk, OnOk, refl, sym, subst}
use Rattle.pres.specs.Bindings.{Binding}
use Rattle.flick_engine.specs.declared.errors.MessageErr.{MessageErr}
use Rattle.flick_engine.specs.declared.errors.MessageErr.TheVariants as err
use Rattle.flick_engine.specs.declared.requests.Request.{Request}
use Rattle.flick_engine.specs.Received.{asked, Answers, ReadCall}
use Rattle.flick_texts.specs.declared.trip.Trip.{Trip}
use Rattle.flick_texts.specs.declared.trip.Trip.TheVariants.{Refused}
use Rattle.flick_texts.specs.MadeText.{IsRead}
use Rattle.flick_lines.proofs.Written.{call-refused}

-- what was read of a call is what it is
pub call_read : (b : Binding) (m : List ℕ) (r : Request) → Answers b m (Ok r) → ReadCall b m (Ok (asked r))
call_read b m r exactly = (exactly (Ok (asked r))).0 refl

-- what was refused is what it is, where there was memory
pub refused_read : {E : Type 0} (r : Result Trip E) (b : Binding) (m : List ℕ) (e : MessageErr) → Answers b m (Err e)
    → IfOk r (λ t. t ≡ Refused e) → OnOk r (e ≡ err.NoMemory → ⊥)
    → IfOk r (λ t. IsRead b m t)
refused_read (Ok t) b m e exactly is other = subst (IsRead b m) (sym is) (call-refused b m e exactly other)
refused_read (Err x) b m e exactly is other = tt
