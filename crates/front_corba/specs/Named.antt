-- Operations that are found by their names.
use Rattle.std.specs.Prelude.{◌≡◌, Bool, ◌&&◌, ◌==◌, ℕ, List, [], ◌∷◌, ◌++◌, map, if◌then◌else◌}
use Rattle.std.specs.List.{list_any}
use Rattle.std.specs.Str.{bytes_eq}
use Rattle.idl_names.specs.Names.{has}
use Rattle.corba_scopes.specs.Names.{lower}
use Rattle.front_corba.specs.declared.state.Offer.{Offer}

-- names, each with the interface in which it is declared
abbrev pub Origins : Type 0
Origins = List (ℕ × List ℕ)

-- an interface declares this name
abbrev pub declares : ℕ → List ℕ → Origins → Bool
declares home name origins = list_any (λ o. home == o.0 && bytes_eq name o.1) origins

-- one more name of an interface, unless it is there
abbrev pub with_origin : ℕ → List ℕ → Origins → Origins
with_origin home name origins = if declares home name origins then origins else origins ++ (home, name) ∷ []

-- the names of operations
abbrev pub names_of : List Offer → List (List ℕ)
names_of list = map (λ o. o.operation.name) list

-- the names of operations, each with the interface in which it is declared
abbrev pub origins_of : List Offer → Origins
origins_of list = map (λ o. (o.home, o.operation.name)) list

-- sets find what these operations have: their names, their names in lower case, and where each is declared
pub record IsIndex (list : List Offer) (names folded : List (List ℕ)) (origins : Origins) : Type 0 where
  pub exact : (name : List ℕ) → has name names ≡ has name (names_of list)
  pub small : (name : List ℕ) → has name folded ≡ has name (map lower (names_of list))
  pub origin : (home : ℕ) (name : List ℕ) → declares home name origins ≡ declares home name (origins_of list)
