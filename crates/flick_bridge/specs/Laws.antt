-- Laws of bridges.
use Rattle.std.specs.Prelude.{◌≡◌, ℕ, List}
use Rattle.flick_bridge.specs.Bridged.{Bridging, IsBridged}

-- the answer to a line is determined
abbrev pub IsBridgedOnce : Type 0
IsBridgedOnce = (s : Bridging) (line a c : List ℕ) → IsBridged s line a → IsBridged s line c → a ≡ c
