-- The text of a union, by induction on its arms.
use Rattle.std.proofs.Common.{◌≡◌, ℕ, ℤ, Result, OnOk, List, [], ◌∷◌, ◌++◌, Option, None, refl, ap, ◌∙◌, subst, codes}
use Rattle.std.specs.Prelude.{Box}
use Rattle.std.specs.declared.alloc.Global.{Global}
use Rattle.std.specs.Fmt.{signed_decimal}
use Rattle.std.specs.Option.{option_map}
use Rattle.std.proofs.lemmas.Result.{on_ok_weaker}
use Rattle.aoi.specs.declared.types.Ty.{Ty}
use Rattle.aoi.specs.declared.types.Ty.TheViews as view
use Rattle.aoi.specs.Shapes.{Shape, seen, arms_seen, default_of}
use Rattle.aoi.proofs.Seen.{choice_seen}
use Rattle.stub_print.specs.Putting.{IsPut}
use Rattle.flick_texts.specs.TypeText.{type_text, arms_text, mark_after}

-- the mark after arms that follow a semicolon
same_mark : (arms : List (ℤ × Ty)) → mark_after (codes ";") arms ≡ codes ";"
same_mark [] = refl
same_mark (a ∷ arms) = refl

-- arms, and then the default after its mark
arms_split : (names : List (List ℕ)) (mark : List ℕ) (arms : List (ℤ × Ty)) (o : Option Shape) (rest : List ℕ)
    → arms_text names mark (arms_seen arms o) rest
    ≡ arms_text names mark (arms_seen arms None) (arms_text names (mark_after mark arms) (default_of o) rest)
arms_split names mark [] o rest = refl
arms_split names mark (a ∷ arms) o rest =
    ap (λ z. mark ++ (signed_decimal a.0 ++ (codes ":" ++ type_text names (seen a.1) z)))
    (arms_split names (codes ";") arms o rest
    ∙ ap (λ m. arms_text names (codes ";") (arms_seen arms None) (arms_text names m (default_of o) rest)) (same_mark arms))

pub union_put : {E : Type 0} (r : Result (Unit {0}) E) (names : List (List ℕ)) (ty : Ty) (tag : Box Ty Global) (arms : List (ℤ × Ty))
    (other : Option (Box Ty Global)) (tag_type : Ty) (items : List (ℤ × Ty)) (mark old a b c d e new : List ℕ)
    → ty ≡ view.Union tag arms other → tag_type ≡ tag.value → items ≡ arms → mark ≡ mark_after [] arms
    → IsPut old (λ rest. codes "union " ++ rest) a → IsPut a (type_text names (seen tag_type)) b → IsPut b (λ rest. codes "{" ++ rest) c
    → IsPut c (arms_text names [] (arms_seen items None)) d
    → IsPut d (arms_text names mark (default_of (option_map (λ b. seen b.value) other))) e
    → OnOk r (IsPut e (λ rest. codes "}" ++ rest) new)
    → OnOk r (IsPut old (type_text names (seen ty)) new)
union_put r names ty tag arms other tag_type items mark old a b c d e new is tag_is arms_are mark_is word tagged opened each last closed =
    let o : Option Shape = option_map (λ b. seen b.value) other in
    on_ok_weaker r (λ end rest.
    ap (λ s. old ++ type_text names s rest) (ap seen is ∙ choice_seen tag arms other)
    ∙ word _
    ∙ subst (λ s. (x : List ℕ) → a ++ type_text names (seen s) x ≡ b ++ x) tag_is tagged _
    ∙ opened _
    ∙ ap (λ z. c ++ z) (arms_split names [] arms o (codes "}" ++ rest))
    ∙ subst (λ z. (x : List ℕ) → c ++ arms_text names [] (arms_seen z None) x ≡ d ++ x) arms_are each _
    ∙ subst (λ m. (x : List ℕ) → d ++ arms_text names m (default_of o) x ≡ e ++ x) mark_is last _
    ∙ end rest) closed
