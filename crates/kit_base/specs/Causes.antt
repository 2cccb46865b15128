-- When a fault is reported: where the count of faults of the object that was passed rose, and there alone.
use Rattle.std.specs.Prelude.{◌≡◌, ℕ, ◌+◌, ◌-◌, ◌^◌, ◌≤◌, min, max, Result, OnOk, OnErr}

-- a count of 64 bits, raised by k: it stops at its last value
abbrev pub raised : ℕ → ℕ → ℕ
raised n k = max n (min (n + k) (2 ^ 64 - 1))

-- a count that rose, or is still at its last value
abbrev pub Rose : ℕ → ℕ → Type 0
Rose before now = raised before 1 ≤ now

-- a count of faults that never falls, rose where there is a refusal, and otherwise stays as it was
pub record HasCause {T E : Type 0} (before now : ℕ) (result : Result T E) : Type 0 where
  pub later : before ≤ now
  pub failed : OnErr result (Rose before now)
  pub ok : OnOk result (before ≡ now)
