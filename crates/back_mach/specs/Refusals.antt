-- The replies that refuse a request: a header and a return code.
use Rattle.std.specs.Prelude.{ℕ, List, Option, None, Some}
use Rattle.std.specs.Int.{w32, cast_unsigned}
use Rattle.wire_def.specs.declared.outcome.Refusal.{Refusal}
use Rattle.wire_def.specs.declared.outcome.Refusal.TheVariants.{RetCode}
use Rattle.back_mach.specs.Leads.{reply_octets, with_size}

-- the reply to the request with an id, to a remote port; the refusals of other back ends have none
abbrev pub refusal_octets : ℕ → ℕ → Refusal → Option (List ℕ)
refusal_octets id remote (RetCode n) = Some (with_size (reply_octets id remote (cast_unsigned w32 n)))
refusal_octets id remote _ = None

-- a refusal that a Mach message may have
abbrev pub IsOwn : Refusal → Type 0
IsOwn (RetCode n) = Unit {0}
IsOwn _ = ⊥
