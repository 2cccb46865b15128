-- The least of eight.
use Rattle.std.proofs.Common.{◌≡◌, ℕ, min, List, [], ◌∷◌, get_or, length, ap, ◌∙◌, arith}
use Rattle.hoist.specs.SpanSizes.{least}

min_joins : (a b c : ℕ) → min (min a b) c ≡ min a (min b c)
min_joins a b c = omega arith

pub least_of : (f : List ℕ) → length f ≡ 8
    → min (min (get_or f 0 0) (min (get_or f 1 0) (min (get_or f 2 0) (get_or f 3 0))))
    (min (get_or f 4 0) (min (get_or f 5 0) (min (get_or f 6 0) (get_or f 7 0))))
    ≡ least f
least_of (a ∷ b ∷ c ∷ d ∷ e ∷ f ∷ g ∷ h ∷ []) long =
    min_joins a (min b (min c d)) _ ∙ ap (min a) (min_joins b (min c d) _ ∙ ap (min b) (min_joins c d _))
least_of _ long = absurd cc

pub ruleset lengths = (least_of)
