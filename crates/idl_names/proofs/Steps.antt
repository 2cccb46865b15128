-- A loop's step along a list.
use Rattle.std.proofs.Common.{◌≡◌, ℕ, suc, ◌+◌, ◌<◌, List, ◌∷◌, length, drop, get_or, sym, ap, ◌∙◌, arith}
use Rattle.std.proofs.Math.Seq.{drop-cons}

pub drop_step : {A : Type 0} (xs : List A) (j : ℕ) (x d : A) → j < length xs → x ≡ get_or xs j d → drop j xs ≡ x ∷ drop (j + 1) xs
drop_step xs j x d lt is = let next : j + 1 ≡ suc j = omega arith in rw next (drop-cons xs j d lt ∙ ap (λ z. z ∷ drop (suc j) xs) (sym is))
