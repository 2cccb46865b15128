-- A constant of which a piece is kept apart.
use Rattle.std.specs.Prelude.{ℕ, List, ◌++◌, take, drop, Option, Some, None}

-- octets, of which those from a place on stand behind a piece, if there is one
abbrev pub around : List ℕ → ℕ → Option (List ℕ) → List ℕ
around own at None = own
around own at (Some piece) = take at own ++ (piece ++ drop at own)
