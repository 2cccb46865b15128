-- What is known of a position: its remainder by 1, 2, 4 or 8.
use Rattle.std.specs.Prelude.{◌≡◌, ℕ, ◌+◌, ◌%◌, ◌<◌, Bool, true, nat_eq, if◌then◌else◌, ◌&&◌}
use Rattle.wire_def.specs.Scalars.{gap}
use Rattle.cast_stub.specs.Steps.{is_width}
use Rattle.chunker.specs.declared.phase.Phase.{Phase}

-- a number of octets that an alignment may have, and a remainder by it
pub record IsPhase (ph : Phase) : Type 0 where
  pub multiple : is_width ph.m ≡ true
  pub rest : ph.r < ph.m

-- the positions of a phase
abbrev pub AtPhase : Phase → ℕ → Type 0
AtPhase ph p = p % ph.m ≡ ph.r

-- nothing is known
abbrev pub unknown : Phase
unknown = record { m = 1; r = 0 }

-- the remainder of a number by a multiple
abbrev pub modulo : ℕ → ℕ → Phase
modulo m n = record { m = m; r = n % m }

-- what is known after so many octets
abbrev pub shift : Phase → ℕ → Phase
shift ph k = modulo ph.m (ph.r + k)

-- the padding up to a multiple is the same at all positions
abbrev pub is_known : Phase → ℕ → Bool
is_known ph a = nat_eq (ph.m % a) 0

-- what is known after zeros up to a multiple, or the same where it is no alignment
abbrev pub aligned : Phase → ℕ → Phase
aligned ph a = if is_width a then (if is_known ph a then shift ph (gap ph.r a) else modulo a 0) else ph

-- two phases say the same of the remainder by a multiple
abbrev pub agree : Phase → Phase → ℕ → Bool
agree a b m = nat_eq (a.m % m) 0 && nat_eq (b.m % m) 0 && nat_eq (a.r % m) (b.r % m)

-- what both say: the remainder by the greatest multiple
abbrev pub meet : Phase → Phase → Phase
meet a b = if agree a b 8 then modulo 8 a.r else if agree a b 4 then modulo 4 a.r else if agree a b 2 then modulo 2 a.r else unknown
