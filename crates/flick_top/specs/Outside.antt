-- What is outside: the input, what is taken of it, what is written, and the counts of faults.
use Rattle.std.specs.Prelude.{◌≡◌, ◌≢◌, ◌⊎◌, ℕ, List, [], Option}
use Rattle.std.specs.Io.KnownBytes.{Appends, Consumes}
use Rattle.kit_base.specs.Causes.{Rose}
use Rattle.flick_top.specs.Status.{shelf_failed, out_of_memory}

-- what a source will give: its octets, or it does not say
abbrev pub Input : Type 0
Input = Option (List ℕ)

-- what a sink holds: its octets, or it does not say
abbrev pub Held : Type 0
Held = Option (List ℕ)

-- what was taken is a prefix of what was there
abbrev pub TakesPrefix : Input → Input → Type 0
TakesPrefix left left' = (taken : List ℕ) × Consumes left left' taken

-- the shelf failed or memory ran out, nothing was taken, and nothing was written: so it is where there was no task
abbrev pub Fails : Input → Input → Held → Held → ℕ → Type 0
Fails left left' held held' status =
    ((status ≡ shelf_failed) ⊎ (status ≡ out_of_memory)) × Consumes left left' [] × Appends held held' []

-- a status comes only where this count of faults rose
abbrev pub ComesBy : ℕ → ℕ → ℕ → ℕ → Type 0
ComesBy of before now status = status ≡ of → Rose before now

-- with any other status this count of faults is as before, so where it rose the status says so
abbrev pub StandsUnless : ℕ → ℕ → ℕ → ℕ → Type 0
StandsUnless of before now status = status ≢ of → before ≡ now
