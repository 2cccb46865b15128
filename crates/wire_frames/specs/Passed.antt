-- What `Frames` is seen as, and how far it has looked.
use Rattle.std.specs.Prelude.{◌≡◌, ℕ, ◌≤◌, List, ◌++◌, length, drop}
use Rattle.kit_base.specs.Limits.{longest_message}
use Rattle.wire_def.specs.declared.encoding.Back.{Back}
use Rattle.wire_frames.specs.First.{after, record_from}

-- a back end, and the octets that were fed and not given yet
pub record Stream : Type 0 where
  pub back : Back
  pub kept : List ℕ

-- so many octets of a stream are fragments that have so many octets, none of them a last one
pub record Passed (kept : List ℕ) (at sum : ℕ) : Type 0 where
  pub within : at ≤ length kept
  pub few : sum ≤ longest_message
  pub reads : (octets : List ℕ) × (length octets ≡ sum)
      × ((t : List ℕ) → record_from 0 (kept ++ t) ≡ after octets at (record_from sum (drop at kept ++ t)))
