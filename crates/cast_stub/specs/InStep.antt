-- Lists in step: each member of one with that of another at its place.
use Rattle.std.specs.Prelude.{List, [], ◌∷◌}

-- a fact of the members at each place of two lists, which are as many
abbrev pub InStep : {A B : Type 0} → (A → B → Type 0) → List A → List B → Type 0
InStep R [] [] = Unit {0}
InStep R (a ∷ as_) (b ∷ bs) = R a b × InStep R as_ bs
InStep R _ _ = ⊥

-- the same of three lists
abbrev pub AllInStep : {A B C : Type 0} → (A → B → C → Type 0) → List A → List B → List C → Type 0
AllInStep R [] [] [] = Unit {0}
AllInStep R (a ∷ as_) (b ∷ bs) (c ∷ cs) = R a b c × AllInStep R as_ bs cs
AllInStep R _ _ _ = ⊥
