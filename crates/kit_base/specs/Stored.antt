-- How the logic stores numbers and octets: as a tree of numbers that gives them back.
use Rattle.std.specs.Prelude.{◌≡◌, refl, ℕ, ◌==◌, cond, ℤ, pos, negsuc, List, [], ◌∷◌}
use base.Stored.{Gv, gnil, gnum, gcons, num}
use mathlib.Core.Path.{ap}

abbrev pub number_code : ℤ → Gv
number_code (pos n) = gcons (gnum 0) (gnum n)
number_code (negsuc n) = gcons (gnum 1) (gnum n)

abbrev pub number_at : Gv → ℤ
number_at gnil = pos 0
number_at (gnum n) = pos 0
number_at (gcons a b) = cond (num a == 0) (pos (num b)) (negsuc (num b))

pub number_back : (n : ℤ) → number_at (number_code n) ≡ n
number_back (pos n) = refl
number_back (negsuc n) = refl

abbrev pub octets_code : List ℕ → Gv
octets_code [] = gnil
octets_code (n ∷ ns) = gcons (gnum n) (octets_code ns)

abbrev pub octets_at : Gv → List ℕ
octets_at gnil = []
octets_at (gnum n) = []
octets_at (gcons a b) = num a ∷ octets_at b

pub octets_back : (ns : List ℕ) → octets_at (octets_code ns) ≡ ns
octets_back [] = refl
octets_back (n ∷ ns) = ap (λ z. n ∷ z) (octets_back ns)
