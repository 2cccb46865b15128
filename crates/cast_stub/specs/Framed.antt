-- Code between a lead and a patch.
use Rattle.std.specs.Prelude.{◌≡◌, ℕ, ◌+◌, [], Option, None, Some, option_map}
use Rattle.mint.specs.Types.{Ty}
use Rattle.cast_stub.specs.Block.{Block, stop, chunk, patch}
use Rattle.cast_stub.specs.Append.{append}
use Rattle.cast_stub.specs.Follows.{Follows}
use Rattle.cast_stub.specs.Subs.{no_subs}

-- the octets of chunks alone
abbrev pub lead_length : Block → Option ℕ
lead_length stop = Some 0
lead_length (chunk s ps r) = option_map (λ n. s + n) (lead_length r)
lead_length _ = None

-- at most one patch
abbrev pub IsTail : Block → Type 0
IsTail stop = Unit {0}
IsTail (patch a s o stop) = Unit {0}
IsTail _ = ⊥

-- chunks of so many octets, code that goes through a type, and at most one patch
abbrev pub IsFramed : ℕ → Ty → Block → Type 0
IsFramed n t b = (lead : Block) × (body : Block) × (tail : Block) × (below : ℕ) × (b ≡ append lead (append body tail))
    × (lead_length lead ≡ Some n) × Follows no_subs t below [] body × IsTail tail
