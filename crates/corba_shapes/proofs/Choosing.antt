-- Unions are sound, by induction on the cases and on the labels of each.
use Rattle.std.proofs.Common.{◌≡◌, ℕ, ℤ, Bool, true, false, List, [], ◌∷◌, ◌++◌, length, Option, Some, None, refl, ap, subst, ◌∙◌}
use Rattle.std.specs.Prelude.{Ok}
use Rattle.std.specs.Option.{is_some, unwrap_or}
use Rattle.aoi.specs.declared.faults.NameFault.TheVariants.{Label}
use Rattle.aoi.specs.Shapes.{Shape, void, default, arms_of}
use Rattle.aoi.specs.Sound.{is_sound_type, has_arm}
use Rattle.idl_names.specs.declared.uses.Tag.{Tag}
use Rattle.idl_names.specs.declared.uses.Tag.TheVariants as tag
use Rattle.idl_names.specs.declared.uses.Use.{Use}
use Rattle.idl_names.specs.declared.uses.Use.TheVariants.{Number}
use Rattle.idl_names.specs.Answers.{refused}
use Rattle.idl_names.specs.Uses.{tag_of_use, is_other}
use Rattle.idl_names.specs.Labels.{numbered}
use Rattle.idl_names.specs.Arms.{with_arm}
use Rattle.idl_names.proofs.Parts.{then_ok, ok_same}
use Rattle.idl_names.proofs.Standing.{UseIs}
use Rattle.idl_names.proofs.Labelling.{NumbersAre, Longer, number_added, joined, nothing_more, or_void_true, good, Arm_, ArmsAre, arms_added, choice_sound}
use Rattle.corba_decls.specs.declared.decl_tree.Tag.{Tag as TagTree}
use Rattle.corba_decls.specs.declared.decl_tree.Tag.TheVariants as T
use Rattle.corba_decls.specs.declared.decl_tree.Label.{Label as LabelTree}
use Rattle.corba_decls.specs.declared.decl_tree.Label.TheVariants as L
use Rattle.corba_decls.specs.declared.decl_tree.Case.{Case}
use Rattle.corba_scopes.specs.Names.{Names}
use Rattle.corba_scopes.specs.Consts.{number}
use Rattle.corba_shapes.specs.Forms.{kind_of, named_type, type_form, form_shape}
use Rattle.corba_shapes.specs.Fields.{placed_on}
use Rattle.corba_shapes.specs.Unions.{tag_use, is_no_tag, Labels, label_on, labels_on, Cases, other_with, case_on, cases_on, union_shape}
use Rattle.corba_shapes.proofs.Standing.{ScopeIs}
use Rattle.corba_shapes.proofs.Shaping.{named_type_is, form_is, form_sound}
use Rattle.corba_shapes.proofs.Filling.{placed_is}

-- ---- the tag

pub tag_use_is : (types : List Shape) (labels : List (ℕ × ℤ)) (s : Names) (d : ℕ) (t : TagTree) (u : Use)
    → ScopeIs types labels s → tag_use s d t ≡ Ok u → UseIs types labels u
tag_use_is types labels s d (T.Int i) u is h = subst (UseIs types labels) (ok_same (Number (kind_of i)) u h) tt
tag_use_is types labels s d T.Char u is h = subst (UseIs types labels) (ok_same _ u h) tt
tag_use_is types labels s d T.Boolean u is h = subst (UseIs types labels) (ok_same _ u h) tt
tag_use_is types labels s d (T.Named n) u is h =
    let a = then_ok (named_type s d n) _ u h in
    subst (UseIs types labels) (ok_same a.given.0 u a.rest) (named_type_is types labels s d n a.given is a.first)

pub tag_is : (t : Tag) → is_no_tag t ≡ false → is_other t ≡ false
tag_is (tag.Number k) h = refl
tag_is (tag.Enum k) h = refl
tag_is tag.Other h = absurd cc

-- ---- labels

label_longer : (s : Names) (labels : List (ℕ × ℤ)) (t : Tag) (d : ℕ) (ls out : Labels) (x : LabelTree)
    → NumbersAre labels t ls.numbers → label_on s labels t d ls x ≡ Ok out → Longer labels t ls.numbers out.numbers
label_longer s labels t d ls out (L.Case e) are h =
    let a = then_ok (number s d e) _ out h in
    let b = then_ok (numbered labels t d ls.numbers a.given) _ out a.rest in
    let made : Labels = record ls { numbers = b.given } in
    subst
    (λ (z : Labels).
    Longer labels t ls.numbers z.numbers) (ok_same made out b.rest) (number_added labels t d ls.numbers b.given a.given are b.first).0
label_longer s labels t d ls out L.Default are h =
    let a = then_ok (refused Label d ls.default) _ out h in
    let made : Labels = record ls { default = true } in
    subst
    (λ (z : Labels).
    Longer labels t ls.numbers z.numbers) (ok_same made out a.rest) (record { more = []; grown = nothing_more ls.numbers; are = are })

labels_longer : (s : Names) (labels : List (ℕ × ℤ)) (t : Tag) (d : ℕ) (ls out : Labels) (xs : List LabelTree)
    → NumbersAre labels t ls.numbers → labels_on s labels t d ls xs ≡ Ok out → Longer labels t ls.numbers out.numbers
labels_longer s labels t d ls out [] are h =
    subst
    (λ (z : Labels).
    Longer labels t ls.numbers z.numbers) (ok_same ls out h) (record { more = []; grown = nothing_more ls.numbers; are = are })
labels_longer s labels t d ls out (x ∷ xs) are h =
    let a = then_ok (label_on s labels t d ls x) _ out h in
    let one = label_longer s labels t d ls a.given x are a.first in
    let rest = labels_longer s labels t d a.given out xs one.are a.rest in
    record {
      more = one.more ++ rest.more;
      grown = rest.grown
          ∙ ap (λ z. z ++ rest.more) one.grown ∙ joined ls.numbers one.more rest.more;
      are = rest.are;
    }

-- ---- cases

abbrev OtherGood : List Shape → Option Shape → Type 0
OtherGood types o = good types (unwrap_or o void) ≡ true

other_good : (types : List Shape) (b : Bool) (o : Option Shape) (s : Shape) → OtherGood types o → good types s ≡ true
    → OtherGood types (other_with b o s)
other_good types true None s old new = new
other_good types true (Some x) s old new = old
other_good types false None s old new = old
other_good types false (Some x) s old new = old

pub record CasesAre (types : List Shape) (labels : List (ℕ × ℤ)) (t : Tag) (cs : Cases) : Type 0 where
  pub standing : ScopeIs types labels cs.names
  pub choices : ArmsAre types labels t cs.numbers cs.arms
  pub rest : OtherGood types cs.other

case_is : (types : List Shape) (labels : List (ℕ × ℤ)) (t : Tag) (d : ℕ) (cs out : Cases) (c : Case)
    → CasesAre types labels t cs → case_on labels t d cs c ≡ Ok out → CasesAre types labels t out
case_is types labels t d cs out c are h =
    let before : Labels = record { numbers = cs.numbers; default = is_some cs.other } in
    let a = then_ok (labels_on cs.names labels t d before c.labels) _ out h in
    let b = then_ok (type_form cs.names d c.of.0 c.of.1) _ out a.rest in
    let e = then_ok (placed_on d cs.names c.declarator) _ out b.rest in
    let more = labels_longer cs.names labels t d before a.given c.labels are.choices.numbers a.first in
    let form = form_is types labels cs.names d c.of.0 c.of.1 b.given are.standing b.first in
    let one = placed_is types labels d cs.names c.declarator e.given are.standing e.first in
    let shape = form_shape b.given e.given.1 in
    let sound : good types shape ≡ true = or_void_true shape (is_sound_type types (length types) shape)
    (form_sound types labels b.given e.given.1 form one.lengths) in
    let made : Cases =
    record {
      names = e.given.0;
      numbers = a.given.numbers;
      arms = with_arm a.given.numbers cs.arms shape;
      other =
          other_with a.given.default cs.other shape;
    } in
    subst (CasesAre types labels t) (ok_same made out e.rest) (record {
      standing = one.scope;
      choices = arms_added types labels t cs.numbers a.given.numbers cs.arms shape are.choices more sound;
      rest = other_good types a.given.default cs.other shape are.rest sound;
    })

pub cases_are : (types : List Shape) (labels : List (ℕ × ℤ)) (t : Tag) (d : ℕ) (cs out : Cases) (list : List Case)
    → CasesAre types labels t cs → cases_on labels t d cs list ≡ Ok out → CasesAre types labels t out
cases_are types labels t d cs out [] are h = subst (CasesAre types labels t) (ok_same cs out h) are
cases_are types labels t d cs out (c ∷ list) are h =
    let a = then_ok (case_on labels t d cs c) _ out h in
    cases_are types labels t d a.given out list (case_is types labels t d cs a.given c are a.first) a.rest

-- ---- the union

some_arm : (arms : List Arm_) (s : Shape) → has_arm (arms_of arms (default s)) ≡ true
some_arm [] s = refl
some_arm (a ∷ arms) s = refl

pub union_sound : (types : List Shape) (labels : List (ℕ × ℤ)) (u : Use) (cs : Cases) → UseIs types labels u → is_no_tag (tag_of_use u)
    ≡ false → CasesAre types labels (tag_of_use u) cs → is_sound_type types (length types) (union_shape u cs) ≡ true
union_sound types labels u cs used fit are =
    let other : Shape = unwrap_or cs.other void in
    choice_sound types labels u cs.numbers cs.arms (default other) used (tag_is (tag_of_use u) fit) are.choices
    (record { numbers = refl; sound = are.rest }) (some_arm cs.arms other)
