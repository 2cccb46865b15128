-- Names of types by their numbers, by induction on the list of types, and names in two parts.
use Rattle.std.proofs.Common.{◌≡◌, ℕ, zero, suc, ◌<◌, Result, OnOk, List, [], ◌∷◌, ◌++◌, length, get_or, ap, ◌∙◌, append_assoc, arith}
use Rattle.std.specs.Prelude.{slice_index_or}
use Rattle.std.proofs.lemmas.Result.{on_ok_weaker}
use Rattle.aoi.specs.declared.types.Ty.{Ty}
use Rattle.stub_print.specs.Putting.{IsPut}
use Rattle.flick_texts.specs.TypeText.{names_of, trees_of}

-- a type has its name among those of the plain trees
pub type_named : (types : List (List ℕ × Ty)) (k : ℕ) (t : List ℕ × Ty) → k < length types → t ≡ get_or types k t
    → t.0 ≡ slice_index_or (names_of (trees_of types)) k []
type_named [] k t h is = absurd (omega (arith, h))
type_named (u ∷ types) zero t h is = ap (λ (z : List ℕ × Ty). z.0) is
type_named (u ∷ types) (suc k) t h is = type_named types k t (omega (arith, h)) is

-- a name is put by its parts
pub parts_put : {E : Type 0} (r : Result (Unit {0}) E) (old mid new prefix own name : List ℕ) → name ≡ prefix ++ own
    → IsPut old (λ rest. prefix ++ rest) mid → OnOk r (IsPut mid (λ rest. own ++ rest) new)
    → OnOk r (IsPut old (λ rest. name ++ rest) new)
parts_put r old mid new prefix own name is front h =
    on_ok_weaker r (λ back rest.
    ap (λ z. old ++ (z ++ rest)) is ∙ ap (λ z. old ++ z) (append_assoc prefix own rest) ∙ front (own ++ rest) ∙ back rest) h
