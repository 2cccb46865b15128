-- The text of arrays of arrays, by induction on the counts.
use Rattle.std.proofs.Common.{◌≡◌, ℕ, Result, OnOk, List, [], ◌∷◌, ◌++◌, refl, ap, sym, ◌∙◌, subst}
use Rattle.std.specs.Prelude.{Box}
use Rattle.std.specs.declared.alloc.Global.{Global}
use Rattle.std.proofs.lemmas.Result.{on_ok_weaker}
use Rattle.mint.specs.declared.kind.Count.{Count}
use Rattle.aoi.specs.declared.types.Ty.{Ty}
use Rattle.aoi.specs.declared.types.Ty.TheViews as view
use Rattle.aoi.specs.Shapes.{Shape, arrayed, seen}
use Rattle.aoi.proofs.Seen.{arrays_seen}
use Rattle.stub_print.specs.Putting.{IsPut}
use Rattle.flick_texts.specs.TypeText.{type_text, elements_text}
use Rattle.flick_texts.specs.Arrays.{all_elements_text}

arrayed_text : (names : List (List ℕ)) (s : Shape) (cs : List Count) (rest : List ℕ)
    → type_text names (arrayed s cs) rest ≡ all_elements_text cs (type_text names s rest)
arrayed_text names s [] rest = refl
arrayed_text names s (c ∷ cs) rest = ap (λ z. elements_text c z) (arrayed_text names s cs rest)

pub arrays_put : {E : Type 0} (r : Result (Unit {0}) E) (names : List (List ℕ)) (ty : Ty) (item : Box Ty Global) (count : Count)
    (within : List Count) (item_type : Ty) (counts : List Count) (old a b new : List ℕ)
    → ty ≡ view.Arrays item count within → item_type ≡ item.value → counts ≡ within
    → IsPut old (elements_text count) a → IsPut a (all_elements_text counts) b
    → OnOk r (IsPut b (type_text names (seen item_type)) new)
    → OnOk r (IsPut old (type_text names (seen ty)) new)
arrays_put r names ty item count within item_type counts old a b new is item_is counts_are first others last =
    on_ok_weaker r (λ end rest.
    ap (λ s. old ++ type_text names s rest) (ap seen is ∙ arrays_seen item count within)
    ∙ ap (λ z. old ++ elements_text count z) (arrayed_text names (seen item.value) within rest)
    ∙ first _
    ∙ subst (λ z. (x : List ℕ) → a ++ all_elements_text z x ≡ b ++ x) counts_are others _
    ∙ ap (λ s. b ++ type_text names (seen s) rest) (sym item_is)
    ∙ end rest) last
