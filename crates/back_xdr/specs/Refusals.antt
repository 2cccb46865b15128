-- The replies that refuse a call (RFC 5531, section 9), with an empty verifier.
use Rattle.std.specs.Prelude.{ℕ, List, [], ◌∷◌, Option, None, Some, option_map}
use Rattle.wire_def.specs.declared.outcome.Refusal.{Refusal}
use Rattle.wire_def.specs.declared.outcome.Refusal.TheVariants.{ProgUnavail, ProgMismatch, ProcUnavail, GarbageArgs, SystemErr, RpcMismatch, AuthError, SystemException, UserException, RetCode}
use Rattle.raw_buf.specs.Words.{words}

-- the numbers of an accepted call's reply: the message type, accepted, a verifier of flavour and length 0, and the state
abbrev pub accepted_with : List ℕ → List ℕ
accepted_with state = 1 ∷ 0 ∷ 0 ∷ 0 ∷ state

-- the numbers of a denied call's reply: the message type, denied, and the reason
abbrev pub denied_for : List ℕ → List ℕ
denied_for reason = 1 ∷ 1 ∷ reason

-- the numbers after the transaction; the refusals of other back ends have none
abbrev pub refusal_numbers : Refusal → Option (List ℕ)
refusal_numbers ProgUnavail = Some (accepted_with (1 ∷ []))
refusal_numbers (ProgMismatch low high) = Some (accepted_with (2 ∷ low ∷ high ∷ []))
refusal_numbers ProcUnavail = Some (accepted_with (3 ∷ []))
refusal_numbers GarbageArgs = Some (accepted_with (4 ∷ []))
refusal_numbers SystemErr = Some (accepted_with (5 ∷ []))
refusal_numbers (RpcMismatch low high) = Some (denied_for (0 ∷ low ∷ high ∷ []))
refusal_numbers (AuthError why) = Some (denied_for (1 ∷ why ∷ []))
refusal_numbers _ = None

-- a refusal that a call over XDR may have
abbrev pub IsOwn : Refusal → Type 0
IsOwn (SystemException id minor completion) = ⊥
IsOwn (UserException id) = ⊥
IsOwn (RetCode n) = ⊥
IsOwn _ = Unit {0}

-- the octets of the reply
abbrev pub refusal_octets : ℕ → Refusal → Option (List ℕ)
refusal_octets id r = option_map (λ ns. words (id ∷ ns)) (refusal_numbers r)
