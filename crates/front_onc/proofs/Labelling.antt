-- Unions are sound, by induction on the cases and on the labels of each.
use Rattle.std.proofs.Common.{◌≡◌, ℕ, ℤ, true, List, [], ◌∷◌, ◌++◌, length, map, Option, Some, None, refl, sym, ap, subst, ◌∙◌, arith}
use Rattle.std.specs.Prelude.{Ok}
use Rattle.aoi.specs.declared.faults.NameFault.TheVariants.{NotType}
use Rattle.aoi.specs.Shapes.{Shape, choice, Arms, no_default, default, arms_of}
use Rattle.aoi.specs.Sound.{is_sound_type}
use Rattle.onc_syntax.specs.declared.tree.Arm.{Arm as ArmTree}
use Rattle.onc_syntax.specs.declared.tree.Arm.TheVariants as A
use Rattle.onc_syntax.specs.declared.tree.Label.{Label as LabelTree}
use Rattle.onc_syntax.specs.declared.tree.Case.{Case}
use Rattle.onc_syntax.specs.declared.tree.Union.{Union}
use Rattle.idl_names.specs.declared.uses.Tag.{Tag}
use Rattle.idl_names.specs.declared.uses.Use.{Use}
use Rattle.idl_names.specs.Names.{has}
use Rattle.idl_names.specs.Uses.{shape_of_use, tag_of_use, is_other}
use Rattle.idl_names.specs.Arms.{with_arm}
use Rattle.idl_names.specs.Lists.{is_some_list}
use Rattle.idl_names.proofs.Standing.{UseIs}
use Rattle.front_onc.specs.declared.meaning.Form.{Form}
use Rattle.idl_names.specs.Answers.{refused}
use Rattle.front_onc.specs.Names.{Scope, value}
use Rattle.front_onc.specs.State.{State}
use Rattle.front_onc.specs.Declarations.{form, shape, name_of}
use Rattle.front_onc.specs.Unions.{label_on, labels_on, arm_shape, arm_on, Cases, case_on, cases_on, other, union_shape}
use Rattle.front_onc.specs.Resolved.{has_label}
use Rattle.idl_names.proofs.Parts.{then_ok, refused_ok, ok_same}
use Rattle.idl_names.proofs.Labelling.{NumbersAre, Longer, number_added, or_void_true, ArmsAre, arms_added, OtherIs, some_arm, choice_sound, good, joined, nothing_more}
use Rattle.front_onc.proofs.Standing.{ScopeIs}
use Rattle.front_onc.proofs.Forming.{form_sound}

-- ---- labels

label_added : (scope : Scope) (labels : List (ℕ × ℤ)) (t : Tag) (d : ℕ) (ns out : List ℤ) (l : LabelTree)
    → NumbersAre labels t ns → label_on scope labels t d ns l ≡ Ok out
    → Longer labels t ns out × (is_some_list out ≡ true)
label_added scope labels t d ns out l are h = let a = then_ok (value scope d l.value) _ out h in number_added labels t d ns out a.given
    are a.rest

labels_are : (scope : Scope) (labels : List (ℕ × ℤ)) (t : Tag) (d : ℕ) (ns out : List ℤ) (ls : List LabelTree)
    → NumbersAre labels t ns → labels_on scope labels t d ns ls ≡ Ok out
    → Longer labels t ns out × (is_some_list ns ≡ true → is_some_list out ≡ true)
labels_are scope labels t d ns out [] are h =
    let same = ok_same ns out h in (
      record { more = []; grown = sym same ∙ nothing_more ns; are = subst (NumbersAre labels t) same are },
      λ some. subst (λ z. is_some_list z ≡ true) same some,
    )
labels_are scope labels t d ns out (l ∷ ls) are h =
    let a = then_ok (label_on scope labels t d ns l) _ out h in
    let one = label_added scope labels t d ns a.given l are a.first in
    let rest = labels_are scope labels t d a.given out ls one.0.are a.rest in (
      record {
        more = one.0.more ++ rest.0.more;
        grown = rest.0.grown
            ∙ ap (λ z. z ++ rest.0.more) one.0.grown ∙ joined ns one.0.more rest.0.more;
        are = rest.0.are;
      },
      λ _. rest.1 one.1,
    )

labels_some : (scope : Scope) (labels : List (ℕ × ℤ)) (t : Tag) (d : ℕ) (ns out : List ℤ) (ls : List LabelTree)
    → NumbersAre labels t ns → is_some_list ls ≡ true → labels_on scope labels t d ns ls ≡ Ok out
    → is_some_list out ≡ true
labels_some scope labels t d ns out [] are some h = absurd cc
labels_some scope labels t d ns out (l ∷ ls) are some h =
    let a = then_ok (label_on scope labels t d ns l) _ out h in
    let one = label_added scope labels t d ns a.given l are a.first in
    (labels_are scope labels t d a.given out ls one.0.are a.rest).1 one.1

-- ---- arms

arm_good : (types : List Shape) (labels : List (ℕ × ℤ)) (scope : Scope) (d : ℕ) (names : List (List ℕ)) (a : ArmTree)
    (r : Option Form × List (List ℕ))
    → ScopeIs types labels scope → arm_on scope d names a ≡ Ok r
    → good types (arm_shape r.0) ≡ true
arm_good types labels scope d names A.Void r s h =
    let here : Option Form × List (List ℕ) = (None, names) in
    subst (λ (r : Option Form × List (List ℕ)). good types (arm_shape r.0) ≡ true) (ok_same here r h) refl
arm_good types labels scope d names (A.Decl decl) r s h =
    let taken = has (name_of decl) names in
    let a = then_ok (form scope d taken decl) _ r h in
    let here : Option Form × List (List ℕ) = (Some a.given, names ++ name_of decl ∷ []) in
    let sound = form_sound types labels scope d taken decl a.given s a.first in
    subst
    (λ (r : Option Form × List (List ℕ)).
    good types (arm_shape r.0) ≡ true) (ok_same here r a.rest) (or_void_true (shape a.given) _ sound)

abbrev CasesAre : List Shape → List (ℕ × ℤ) → Tag → Cases → Type 0
CasesAre types labels t cs = ArmsAre types labels t cs.numbers cs.arms

case_added : (types : List Shape) (labels : List (ℕ × ℤ)) (scope : Scope) (t : Tag) (d : ℕ) (cs out : Cases) (c : Case)
    → ScopeIs types labels scope → CasesAre types labels t cs → case_on scope labels t d cs c ≡ Ok out
    → CasesAre types labels t out × (is_some_list cs.numbers ≡ true → is_some_list out.numbers ≡ true)
    × (is_some_list c.labels ≡ true → is_some_list out.numbers ≡ true)
case_added types labels scope t d cs out c s are h =
    let a = then_ok (labels_on scope labels t d cs.numbers c.labels) _ out h in
    let b = then_ok (arm_on scope d cs.names c.arm) _ out a.rest in
    let ls = labels_are scope labels t d cs.numbers a.given c.labels are.numbers a.first in
    let shape = arm_shape b.given.0 in
    let sound = arm_good types labels scope d cs.names c.arm b.given s b.first in
    let made : Cases = record { numbers = a.given; names = b.given.1; arms = with_arm a.given cs.arms shape } in
    let whole : CasesAre types labels t made = arms_added types labels t cs.numbers a.given cs.arms shape are ls.0 sound in
    let same = ok_same made out b.rest in (
      subst (CasesAre types labels t) same whole,
      λ some. subst (λ (z : Cases). is_some_list z.numbers ≡ true) same (ls.1 some),
      λ some.
          subst
          (λ (z : Cases).
          is_some_list z.numbers ≡ true) same (labels_some scope labels t d cs.numbers a.given c.labels are.numbers some a.first),
    )

cases_are : (types : List Shape) (labels : List (ℕ × ℤ)) (scope : Scope) (t : Tag) (d : ℕ) (cs out : Cases) (list : List Case)
    → ScopeIs types labels scope → CasesAre types labels t cs → cases_on scope labels t d cs list ≡ Ok out
    → CasesAre types labels t out × (is_some_list cs.numbers ≡ true → is_some_list out.numbers ≡ true)
cases_are types labels scope t d cs out [] s are h =
    let same =
    ok_same cs out h in (
      subst (CasesAre types labels t) same are,
      λ some. subst (λ (z : Cases). is_some_list z.numbers ≡ true) same some,
    )
cases_are types labels scope t d cs out (c ∷ list) s are h =
    let a = then_ok (case_on scope labels t d cs c) _ out h in
    let one = case_added types labels scope t d cs a.given c s are a.first in
    let rest = cases_are types labels scope t d a.given out list s one.0 a.rest in
    (rest.0, λ some. rest.1 (one.1 some))

cases_some : (types : List Shape) (labels : List (ℕ × ℤ)) (scope : Scope) (t : Tag) (d : ℕ) (cs out : Cases) (list : List Case)
    → ScopeIs types labels scope → CasesAre types labels t cs → has_label list ≡ true → cases_on scope labels t d cs list ≡ Ok out
    → is_some_list out.numbers ≡ true
cases_some types labels scope t d cs out [] s are some h = absurd cc
cases_some types labels scope t d cs out (c ∷ list) s are some h =
    let a = then_ok (case_on scope labels t d cs c) _ out h in
    let one = case_added types labels scope t d cs a.given c s are a.first in
    (cases_are types labels scope t d a.given out list s one.0 a.rest).1 (one.2 some)

-- ---- the union

other_is : (types : List Shape) (labels : List (ℕ × ℤ)) (scope : Scope) (d : ℕ) (names : List (List ℕ)) (a : Option ArmTree) (o : Arms)
    → ScopeIs types labels scope → other scope d names a ≡ Ok o
    → OtherIs types o
other_is types labels scope d names None o s h = subst (OtherIs types) (ok_same no_default o h) (record { numbers = refl; sound = refl })
other_is types labels scope d names (Some a) o s h =
    let b = then_ok (arm_on scope d names a) _ o h in
    subst (OtherIs types) (ok_same (default (arm_shape b.given.0)) o b.rest)
    (record { numbers = refl; sound = arm_good types labels scope d names a b.given s b.first })

pub union_sound : (s : State) (d : ℕ) (u : Use) (tree : Union) (out : Shape) → ScopeIs (map (λ t. t.1) s.types) s.labels s.scope
    → UseIs (map (λ t. t.1) s.types) s.labels u → has_label tree.cases ≡ true → union_shape s d u tree ≡ Ok out
    → is_sound_type (map (λ t. t.1) s.types) (length (map (λ t. t.1) s.types)) out ≡ true
union_sound s d u tree out is used some h =
    let types : List Shape = map (λ t. t.1) s.types in
    let t = tag_of_use u in
    let empty : Cases = record { numbers = []; names = tree.tag_name ∷ []; arms = [] } in
    let none : CasesAre types s.labels t empty =
    record { numbers = record { different = refl; few = omega arith; all = refl }; arms = refl; sound = refl } in
    let a = then_ok (refused NotType d (is_other t)) _ out h in
    let b = then_ok (cases_on s.scope s.labels t d empty tree.cases) _ out a.rest in
    let c = then_ok (other s.scope d b.given.names tree.default) _ out b.rest in
    let are = (cases_are types s.labels s.scope t d empty b.given tree.cases is none b.first).0 in
    let there = cases_some types s.labels s.scope t d empty b.given tree.cases is none some b.first in
    let last = other_is types s.labels s.scope d b.given.names tree.default c.given is c.first in
    let has = some_arm b.given.arms c.given (ap is_some_list are.arms ∙ there) in
    subst (λ z. is_sound_type types (length types) z ≡ true) (ok_same (choice (shape_of_use u) (arms_of b.given.arms c.given)) out c.rest)
    (choice_sound types s.labels u b.given.numbers b.given.arms c.given used (refused_ok NotType d (is_other t) a.given a.first) are last
    has)
