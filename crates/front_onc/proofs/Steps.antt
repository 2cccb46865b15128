-- A loop's step along a list.
use Rattle.std.proofs.Common.{◌≡◌, ℕ, ℤ, ◌+◌, ◌<◌, List, [], ◌∷◌, ◌++◌, length, drop, get_or, Option, Some, sym, ap, ◌∙◌}
use Rattle.std.specs.Prelude.{Ok}
use Rattle.onc_syntax.specs.declared.tree.Item.{Item}
use Rattle.idl_names.specs.Answers.{Answer, and_then}
use Rattle.idl_names.proofs.Steps.{drop_step}
use Rattle.front_onc.specs.State.{State}
use Rattle.front_onc.specs.Enums.{item_on, items_on}

pub items_step : (d k place : ℕ) (s t : State) (done more : List (List ℕ × ℤ)) (previous : Option ℤ) (list : List Item)
    (j : ℕ) (i e : Item) (n m : ℤ) (item : List ℕ × ℤ) (all : Answer (State × List (List ℕ × ℤ)))
    → all ≡ items_on d k place s done previous (drop j list) → j < length list → i ≡ get_or list j e
    → item_on d k place s previous i ≡ Ok (t, n) → m ≡ n → item ≡ (i.name, m) → more ≡ done ++ item ∷ []
    → all ≡ items_on d k place t more (Some m) (drop (j + 1) list)
items_step d k place s t done more previous list j i e n m item all ahead lt is one same item_is more_is =
    let cut = drop_step list j i e lt is in
    let pushed : more ≡ done ++ (i.name, n) ∷ [] = more_is ∙ ap (λ z. done ++ z ∷ []) (item_is ∙ ap (λ z. (i.name, z)) same) in
    ahead ∙ ap (items_on d k place s done previous) cut
    ∙ ap (λ z. and_then z (λ r. items_on d k place r.0 (done ++ (i.name, r.1) ∷ []) (Some r.1) (drop (j + 1) list))) one
    ∙ ap (λ z. items_on d k place t z (Some n) (drop (j + 1) list)) (sym pushed)
    ∙ ap (λ z. items_on d k place t more (Some z) (drop (j + 1) list)) (sym same)
