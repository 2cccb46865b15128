-- The operations of interfaces by their names, and the exceptions of operations by their repository ids.
use Rattle.std.specs.Prelude.{◌≡◌, ℕ, ◌+◌, ◌<◌, ◌^◌, List, [], ◌∷◌, ◌++◌, map, length, Option, None, Some, option_map}
use Rattle.std.specs.List.{position_from}
use Rattle.std.specs.Str.{bytes_eq}
use Rattle.aoi.specs.declared.interfaces.Raise.{Raise}
use Rattle.aoi.specs.Plain.{PlainRaise, PlainInterface, PlainOperation, plain_raise}
use Rattle.head_kit.specs.declared.call_head.CallTarget.{CallTarget}
use Rattle.head_kit.specs.Calls.{operation_at}

-- names in order, and the number of the first of them
pub record Offered : Type 0 where
  pub first : ℕ
  pub names : List (List ℕ)

-- names that are found one by one, or by a tree of these names
abbrev pub IsListed : List (List ℕ) → Option Offered → Type 0
IsListed names None = length names + 1 < 2 ^ 32
IsListed names (Some t) = t ≡ record { first = 1; names = names }

-- the names of operations
abbrev pub names_of : List PlainOperation → List (List ℕ)
names_of ops = map (λ (p : PlainOperation). p.name) ops

-- the names of interfaces
abbrev pub keys_of : List PlainInterface → List (List ℕ)
keys_of is = map (λ (i : PlainInterface). i.name) is

-- the operations of interfaces, counted from k
abbrev pub offered_from : ℕ → List PlainInterface → List Offered
offered_from k [] = []
offered_from k (i ∷ is) = record { first = k; names = names_of i.ops } ∷ offered_from (k + length i.ops) is

-- the repository ids of exceptions
abbrev pub ids_of : List Raise → List (List ℕ)
ids_of rs = map (λ (r : PlainRaise). r.id) (map plain_raise rs)

-- the exceptions of an operation by their repository ids, numbered from 1
abbrev pub raised_by : PlainOperation → Offered
raised_by p = record { first = 1; names = map (λ (r : PlainRaise). r.id) p.raises }

-- those of each operation of interfaces
abbrev pub raised_each : List PlainInterface → List Offered
raised_each [] = []
raised_each (i ∷ is) = map raised_by i.ops ++ raised_each is

-- what has no names
abbrev pub nothing : Offered
nothing = record { first = 1; names = [] }

-- the number of the first such name
abbrev pub number_in : Offered → List ℕ → Option ℕ
number_in x name = option_map (λ (n : ℕ). x.first + n) (position_from (bytes_eq name) 0 x.names)

-- the operation of a name
abbrev pub operation_in : Offered → List ℕ → CallTarget
operation_in x name = operation_at (number_in x name)
