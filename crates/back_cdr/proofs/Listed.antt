-- A number that is found by a tree, or one by one, is that among the names.
use Rattle.std.proofs.Common.{◌≡◌, ◌+◌, ◌<◌, ◌^◌, ℕ, List, length, Option, None, Some, option_map, sym, ap, ◌∙◌}
use Rattle.std.specs.List.{position_from}
use Rattle.std.specs.Str.{bytes_eq}
use Rattle.back_cdr.specs.Offered.{IsListed, Offered, number_in}

-- the number of a place among names
pub number_placed : (names : List (List ℕ)) (name : List ℕ) (found : Option ℕ) → found ≡ position_from (bytes_eq name) 0 names
    → option_map (λ (n : ℕ). 1 + n) found ≡ number_in (record { first = 1; names = names }) name
number_placed names name found is = ap (option_map (λ (n : ℕ). 1 + n)) is

-- a tree of the names finds what is found among them
pub number_listed : (names : List (List ℕ)) (all : Offered) (held : Option Offered) (t : Offered) (name : List ℕ)
    → record { first = 1; names = names } ≡ all → IsListed names held → held ≡ Some t → number_in t name ≡ number_in all name
number_listed names all None t name e listed is = absurd cc
number_listed names all (Some u) t name e listed is =
    let same : t ≡ u = cc in
    ap (λ (x : Offered). number_in x name) (same ∙ listed ∙ e)

-- where there is no tree, names are few enough to be counted
pub few_listed : (names : List (List ℕ)) (held : Option Offered) → IsListed names held → held ≡ None → length names + 1 < 2 ^ 32
few_listed names None few is = few
few_listed names (Some t) listed is = absurd cc
