-- Full names in two parts.
use Rattle.std.specs.Prelude.{ℕ, List, ◌++◌, Option, Some, None}

-- the octets of a full name: those of its prefix, if it has one, and its own part
abbrev pub full_name : Option (List ℕ) → List ℕ → List ℕ
full_name None own = own
full_name (Some prefix) own = prefix ++ own
