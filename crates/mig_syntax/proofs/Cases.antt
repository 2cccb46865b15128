-- Names that are equal but for their case.
use Rattle.std.proofs.Common.{◌≡◌, ℕ, List, map, Bool, true, false, refl, sym}
use Rattle.std.specs.Prelude.{◌↔◌, IsTrue}
use Rattle.std.specs.Char.{to_ascii_lowercase}
use Rattle.std.specs.Str.{bytes_eq, str_eq_ignore_ascii_case}
use Rattle.std.proofs.lemmas.Slice.Eq.{bytes_eq-Decides}

pub same : (r : Bool) (a b : List ℕ) → (IsTrue r ↔ (map to_ascii_lowercase a ≡ map to_ascii_lowercase b)) → r ≡ str_eq_ignore_ascii_case a b
same true a b h = sym ((bytes_eq-Decides (map to_ascii_lowercase a) (map to_ascii_lowercase b)).1 (h.0 refl))
same false a b h = go (bytes_eq (map to_ascii_lowercase a) (map to_ascii_lowercase b)) refl where
  go : (c : Bool) → bytes_eq (map to_ascii_lowercase a) (map to_ascii_lowercase b) ≡ c → false ≡ c
  go true e = let no : false ≡ true = h.1 ((bytes_eq-Decides (map to_ascii_lowercase a) (map to_ascii_lowercase b)).0 e) in absurd cc
  go false e = refl
