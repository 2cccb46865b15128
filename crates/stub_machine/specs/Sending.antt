-- What a run of a send code has done.
use Rattle.std.specs.Prelude.{ℕ, ◌+◌, ◌<◌, List, length, Option, None, Some}
use Rattle.kit_base.specs.Causes.{raised}
use Rattle.kit_base.specs.Limits.{longest_message}
use Rattle.raw_buf.specs.declared.tally.Tally.{Tally}
use Rattle.cast_stub.specs.Meaning.{Cost}

-- counts that are raised by a cost
abbrev pub paid : Tally → Cost → Tally
paid t c = record {
  checks = raised t.checks c.checks;
  moves = raised t.moves c.moves;
  stores = raised t.stores c.stores;
  rows = raised t.rows c.rows;
}

-- octets that are too many after so many others
abbrev pub IsLong : ℕ → Option (List ℕ) → Type 0
IsLong p None = ⊥
IsLong p (Some o) = longest_message < p + length o
