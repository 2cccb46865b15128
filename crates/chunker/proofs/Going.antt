-- Lists that are made from the first member on of what is left of a list.
use Rattle.std.proofs.Common.{◌≡◌, List, [], ◌∷◌, ◌++◌, map, sym, ap, ◌∙◌, append_assoc, append-nil}

module _ {A B : Type 0} (f : A → B) where
  -- one more is made
  pub one-made : (old new all : List B) (left rest : List A) (x : A) (y : B) → old ++ map f left ≡ all → left ≡ x ∷ rest
      → new ≡ old ++ y ∷ [] → y ≡ f x
      → new ++ map f rest ≡ all
  one-made old new all left rest x y so_far is made same =
      ap (λ (l : List B). l ++ map f rest) made ∙ append_assoc old (y ∷ []) (map f rest)
      ∙ ap (λ (z : B). old ++ z ∷ map f rest) same ∙ ap (λ (l : List A). old ++ map f l) (sym is) ∙ so_far

  pub all-made : (new all : List B) (left : List A) → left ≡ [] → new ++ map f left ≡ all → new ≡ all
  all-made new all left none made = sym (append-nil new) ∙ ap (λ (l : List A). new ++ map f l) (sym none) ∙ made
