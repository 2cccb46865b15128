-- The heads that are sent (RFC 5531, section 9), with empty credentials and verifier.
use Rattle.std.specs.Prelude.{ℕ, zero, suc, List, [], ◌∷◌}
use Rattle.head_arms.specs.Arms.{where_raised}
use Rattle.raw_buf.specs.Words.{words}
use Rattle.back_xdr.specs.declared.procedures.Procedure.{Procedure}

-- the head of a call: the transaction, the message type, the version of the protocol, what is called, and two bodies of
-- flavour and length 0
abbrev pub lead : Procedure → ℕ → List ℕ
lead p id = words (id ∷ 0 ∷ 2 ∷ p.program ∷ p.version ∷ p.number ∷ 0 ∷ 0 ∷ 0 ∷ 0 ∷ [])

-- the numbers of the head of a reply with an arm, after the transaction, where so many exceptions are raised: the message
-- type, accepted, a verifier of flavour and length 0, the status of success, and the arm where any are raised
abbrev pub reply_numbers : ℕ → ℕ → List ℕ
reply_numbers arms arm = 1 ∷ 0 ∷ 0 ∷ 0 ∷ 0 ∷ where_raised arms (arm ∷ [])

-- the head of a reply with an arm to a procedure that raises so many exceptions
abbrev pub reply_lead : ℕ → ℕ → ℕ → List ℕ
reply_lead arms arm id = words (id ∷ reply_numbers arms arm)

-- the length of the head of a call, whatever it says
abbrev pub lead_length : ℕ
lead_length = 40

-- the length of the head of a reply, whatever it says
abbrev pub reply_lead_length : ℕ → ℕ
reply_lead_length zero = 24
reply_lead_length (suc n) = 28
