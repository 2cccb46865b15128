-- A buffer as its octets, the space ensured after them, and what its calls have cost.
use Rattle.std.specs.Prelude.{◌≡◌, ◌≤◌, ℕ, max, List, length, take}
use Rattle.kit_base.specs.Causes.{raised}
use Rattle.raw_buf.specs.declared.tally.Tally.{Tally}

pub record Buf : Type 0 where
  -- the octets so far
  pub done : List ℕ
  -- the octets ensured after them
  pub front : List ℕ
  -- the counts since the buffer was cleared
  pub tally : Tally
  -- the counts over the buffer's whole life
  pub spent : Tally

-- the counts of no calls
abbrev pub none : Tally
none = record { checks = 0; moves = 0; stores = 0; rows = 0 }

-- counts with one check more
abbrev pub checked : Tally → Tally
checked t = record t { checks = raised t.checks 1 }

-- counts with one move more
abbrev pub moved : Tally → Tally
moved t = record t { moves = raised t.moves 1 }

-- counts with one store more
abbrev pub stored : Tally → Tally
stored t = record t { stores = raised t.stores 1 }

-- counts with one row more
abbrev pub rowed : Tally → Tally
rowed t = record t { rows = raised t.rows 1 }

-- counts that are raised by others
abbrev pub together : Tally → Tally → Tally
together t more = record {
  checks = raised t.checks more.checks;
  moves = raised t.moves more.moves;
  stores = raised t.stores more.stores;
  rows = raised t.rows more.rows;
}

-- no count is less than it was
pub record NoneFell (old new : Tally) : Type 0 where
  pub checks : old.checks ≤ new.checks
  pub moves : old.moves ≤ new.moves
  pub stores : old.stores ≤ new.stores
  pub rows : old.rows ≤ new.rows

-- n octets are ensured, and those that were stay
pub record Ensures (n : ℕ) (old new : Buf) : Type 0 where
  pub done : new.done ≡ old.done
  pub kept : take (length old.front) new.front ≡ old.front
  pub ahead : length new.front ≡ max n (length old.front)
  pub tally : new.tally ≡ checked old.tally
  pub spent : new.spent ≡ checked old.spent
