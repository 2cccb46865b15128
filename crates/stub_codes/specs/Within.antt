-- What code costs at most that sends a value after a head.
use Rattle.std.specs.Prelude.{◌≡◌, ◌≤◌, ◌+◌, ◌*◌, ℕ, Option, Some}
use Rattle.mint.specs.Types.{Ty}
use Rattle.mint.specs.Values.{Val}
use Rattle.wire_def.specs.declared.encoding.Encoding.{Encoding}
use Rattle.cast_stub.specs.Entries.{entries, leaves}
use Rattle.cast_stub.specs.Meaning.{Cost}
use Rattle.hoist.specs.Regions.{regions}
use Rattle.hoist.specs.SpanSizes.{sizes}
use Rattle.copy_inline.specs.Counted.{blocks}

-- a cost within what a value of a type allows that follows a head of so many octets
pub record IsWithin (e : Encoding) (n : ℕ) (t : Ty) (v : Val) (c : Cost) : Type 0 where
  -- the buffer is looked at at most once for each region
  pub checks : c.checks ≤ regions (sizes e) n t v
  -- the rows and texts that travel as blocks are given as blocks, and no others
  pub rows : c.rows ≡ blocks e t v
  -- the cursor is moved at most eight times for each entry and each region
  pub moves : c.moves ≤ 8 * (entries e t v + regions (sizes e) n t v)
  -- at most three stores are made for each leaf, and eight for the head
  pub stores : c.stores ≤ 3 * leaves e t v + 8

-- a cost that is there, and within what the value allows
abbrev pub HasCostWithin : Encoding → ℕ → Ty → Val → Option Cost → Type 0
HasCostWithin e n t v x = (c : Cost) × (x ≡ Some c) × IsWithin e n t v c
