-- Vectors of sixteen octets, the lanes of which are moved.
use Rattle.std.specs.Prelude.{◌≡◌, ℕ, List, length}
use Rattle.std.specs.Int.{w8}
use borrow.Rule.Simd.Moves.{swz_l, SwzOk}
use Rattle.kit_swap.specs.Swapped.{swapped}

-- lanes that reverse the octets of each number of a width in a vector
pub record SwapsLanes (w : ℕ) (lanes : List ℕ) : Type 0 where
  pub there : SwzOk w8 16 16 0 lanes
  pub swaps : (vector : List ℕ) → length vector ≡ 16 → swz_l w8 16 vector 0 lanes ≡ swapped w vector
