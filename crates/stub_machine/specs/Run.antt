-- Where steps lead that are run one after the other.
use Rattle.std.specs.Prelude.{◌≡◌, ℕ, zero, suc, ◌+◌, ◌-◌, ◌^◌, ◌%◌, ◌≤◌, max, List, [], ◌∷◌, ◌++◌, length, replicate, Option, None, Some, nat_le, if◌then◌else◌}
use Rattle.kit_base.specs.Bytes.{written}
use Rattle.wire_def.specs.Scalars.{gap}
use Rattle.raw_buf.specs.declared.tally.Tally.{Tally}
use Rattle.raw_buf.specs.Buf.{Buf, NoneFell, checked, moved, stored, rowed}
use Rattle.wire_def.specs.Orders.{in_order}
use Rattle.cast_stub.specs.Parts.{on_some, IsThere}
use Rattle.cast_stub.specs.Steps.{Step, Room, Pad, Stored, Widened, Copied, Patched, Steps}

-- a buffer, of whose space only the length counts
pub record State : Type 0 where
  -- the octets so far
  pub done : List ℕ
  -- how many octets are ensured after them
  pub ahead : ℕ
  -- the counts since the buffer was cleared
  pub tally : Tally
  -- the counts over the buffer's whole life
  pub spent : Tally

abbrev pub state_of : Buf → State
state_of b = record { done = b.done; ahead = length b.front; tally = b.tally; spent = b.spent }

-- so many stores more
abbrev pub stored_times : ℕ → Tally → Tally
stored_times zero t = t
stored_times (suc k) t = stored_times k (stored t)

-- octets out of the space that is ahead
abbrev pub appended : List ℕ → (Tally → Tally) → State → Option State
appended o cost s = if nat_le (length o) s.ahead
    then Some (record { done = s.done ++ o; ahead = s.ahead - length o; tally = cost s.tally; spent = cost s.spent }) else None

-- one step, where it has its room
abbrev pub act : Step → State → Option State
act (Room n) s = Some (record { done = s.done; ahead = max n s.ahead; tally = checked s.tally; spent = checked s.spent })
act (Pad a) s = appended (replicate (gap (length s.done) a) 0) moved s
act (Stored o k) s = appended o (λ t. moved (stored_times k t)) s
act (Patched at sub order) s = if nat_le (at + 4) (length s.done)
    then Some (record {
      done = written s.done at (in_order order 4 ((length s.done + 2 ^ 32 - sub) % 2 ^ 32));
      ahead = s.ahead;
      tally = stored s.tally;
      spent = stored s.spent;
    })
    else None
act (Widened o k) s = appended o (λ t. moved (stored_times k t)) s
act (Copied o) s = appended o rowed s

abbrev pub ran : List Step → State → Option State
ran [] s = Some s
ran (x ∷ xs) s = on_some (act x s) (ran xs)

abbrev pub ended : Steps → State → Option State
ended x s = on_some x (λ xs. ran xs s)

-- from this state the steps are there, and each has its room
abbrev pub Runs : Steps → State → Type 0
Runs x s = IsThere (ended x s)

-- they lead from a state to a state
abbrev pub Ends : Steps → State → State → Type 0
Ends x s t = ended x s ≡ Some t

-- a state where steps from another were broken off: wherever they lead, there are at least as many octets as
-- here, and no count of what was spent fell so far
pub record Grown (x : Steps) (s t : State) : Type 0 where
  pub grows : (u : State) → Ends x s u → length t.done ≤ length u.done
  pub spent : NoneFell s.spent t.spent
