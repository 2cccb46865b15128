-- The faces of nodes with their shapes have different names, by induction on the nodes.
use Rattle.std.proofs.Common.{◌≡◌, ℕ, zero, suc, ℤ, List, [], ◌∷◌, ◌++◌, length, true, Option, Some, None, Result, Ok, Err, IfOk, zip, refl, ap, ◌∙◌, arith}
use Rattle.std.specs.List.{list_all}
use Rattle.std.proofs.lemmas.List.Folds.{list_all-append}
use Rattle.kit_base.specs.declared.errors.NoMemory.{NoMemory}
use Rattle.mint.specs.declared.node.Tag.{Tag}
use Rattle.mint.specs.declared.node.Tag.TheVariants as tag
use Rattle.mint.specs.declared.node.Node.{Node}
use Rattle.mint.specs.declared.node.Node.TheVariants as node
use Rattle.mint.specs.Types.{Ty}
use Rattle.mint.specs.Typed.{IsWellTyped}
use Rattle.mint.specs.Values.{Val}
use Rattle.aoi.specs.Sound.{are_distinct}
use Rattle.pres.specs.declared.shape.Shape.{Shape}
use Rattle.pres.specs.declared.shape.Shape.TheVariants.{Plain, FieldNames, LabelNames}
use Rattle.pres.specs.Faces.{Face, at, parts_at, other_at, arms_at, sign_of, group_face, level, faces_from, faces, face_at, type_of}
use Rattle.pres.specs.Named.{IsTagShape, IsGroupShape, IsNamed, AreNamed}
use Rattle.serde_json.specs.declared.value.Value.{Value as Json}
use Rattle.serde_json.specs.View.{view}
use Rattle.json_shape.specs.Named.{names_of, is_named_sign, is_named, are_parts_named, are_arms_named}
use Rattle.json_shape.specs.Presents.{Presents}
use Rattle.json_shape.specs.Written.{json_of}
use Rattle.json_shape.proofs.Written.{shows_written}
use Rattle.wire_def.proofs.ScalarGrammar.{left_true, right_true}
use Rattle.std.proofs.lemmas.Bool.{and_from}

named_at : (fs : List Face) (i : ℕ) → list_all is_named fs ≡ true → is_named (at fs i) ≡ true
named_at [] i h = refl
named_at (f ∷ fs) zero h = left_true (is_named f) (list_all is_named fs) h
named_at (f ∷ fs) (suc i) h = named_at fs i (right_true (is_named f) (list_all is_named fs) h)

parts_named : (fs : List Face) (names : List (List ℕ)) (ids : List ℕ) → list_all is_named fs ≡ true
    → are_parts_named (parts_at fs names ids) ≡ true
parts_named fs names [] h = refl
parts_named fs [] (i ∷ ids) h =
    and_from (is_named (at fs i)) (are_parts_named (parts_at fs [] ids)) (named_at fs i h) (parts_named fs [] ids h)
parts_named fs (n ∷ names) (i ∷ ids) h =
    and_from (is_named (at fs i)) (are_parts_named (parts_at fs names ids)) (named_at fs i h) (parts_named fs names ids h)

other_named : (fs : List Face) (o : Option ℕ) → list_all is_named fs ≡ true → are_arms_named (other_at fs o) ≡ true
other_named fs None h = refl
other_named fs (Some i) h = named_at fs i h

arms_named : (fs : List Face) (arms : List (ℤ × ℕ)) (o : Option ℕ) → list_all is_named fs ≡ true → are_arms_named (arms_at fs arms o) ≡ true
arms_named fs [] o h = other_named fs o h
arms_named fs (a ∷ arms) o h =
    and_from (is_named (at fs a.1)) (are_arms_named (arms_at fs arms o)) (named_at fs a.1 h) (arms_named fs arms o h)

names-parts : (fs : List Face) (names : List (List ℕ)) (ids : List ℕ) → length names ≡ length ids → names_of (parts_at fs names ids) ≡ names
names-parts fs [] [] h = refl
names-parts fs [] (i ∷ ids) h = absurd (omega (arith, h))
names-parts fs (n ∷ names) [] h = absurd (omega (arith, h))
names-parts fs (n ∷ names) (i ∷ ids) h = ap (λ (ns : List (List ℕ)). n ∷ ns) (names-parts fs names ids (omega (arith, h)))

sign_named : (t : Tag) (s : Shape) → IsTagShape t s → is_named_sign (sign_of t s) ≡ true
sign_named (tag.Num k) s h = refl
sign_named (tag.Enum labels) (LabelNames items) h = h.distinct
sign_named (tag.Enum labels) _ h = absurd h

group_named : (fs : List Face) (ids : List ℕ) (s : Shape) → list_all is_named fs ≡ true → IsGroupShape ids s
    → is_named (group_face fs ids s) ≡ true
group_named fs ids (FieldNames names) all h =
    and_from (are_distinct (names_of (parts_at fs names ids))) (are_parts_named (parts_at fs names ids))
    (ap are_distinct (names-parts fs names ids h.each) ∙ h.distinct) (parts_named fs names ids all)
group_named fs ids Plain all h = parts_named fs [] ids all
group_named fs ids (LabelNames items) all h = absurd h

level_named : (fs : List Face) (n : Node) (s : Shape) → list_all is_named fs ≡ true → IsNamed n s → is_named (level fs n s) ≡ true
level_named fs (node.Enum labels) s all h = sign_named (tag.Enum labels) s h
level_named fs (node.Group ids) s all h = group_named fs ids s all h
level_named fs (node.Items i c) s all h = named_at fs i all
level_named fs (node.Choice t arms o) s all h =
    and_from (is_named_sign (sign_of t s)) (are_arms_named (arms_at fs arms o)) (sign_named t s h) (arms_named fs arms o all)
level_named fs (node.Maybe i) s all h = named_at fs i all
level_named fs node.Void s all h = refl
level_named fs (node.Num k) s all h = refl
level_named fs (node.Text c) s all h = refl
level_named fs (node.Row k c) s all h = refl

faces_named : (fs : List Face) (nodes : List Node) (shapes : List Shape) → list_all is_named fs ≡ true → AreNamed nodes shapes
    → list_all is_named (faces_from fs (zip nodes shapes)) ≡ true
unfolding faces_from
faces_named fs [] [] all h = all
faces_named fs [] (s ∷ shapes) all h = absurd h
faces_named fs (n ∷ nodes) [] all h = absurd h
faces_named fs (n ∷ nodes) (s ∷ shapes) all h =
    let one : list_all is_named (level fs n s ∷ []) ≡ true = and_from (is_named (level fs n s)) true (level_named fs n s all h.0) refl in
    faces_named (fs ++ level fs n s ∷ []) nodes shapes
    (list_all-append is_named fs (level fs n s ∷ []) ∙ and_from (list_all is_named fs) (list_all is_named (level fs n s ∷ [])) all one) h.1

pub face_named : (nodes : List Node) (shapes : List Shape) (id : ℕ) → AreNamed nodes shapes → is_named (face_at nodes shapes id) ≡ true
unfolding faces
face_named nodes shapes id h = named_at (faces nodes shapes) id (faces_named [] nodes shapes refl h)

-- what is written for a well-typed value presents it
pub written_presents : (f : Face) (t : Ty) (v : Val) (r : Result Json NoMemory) → is_named f ≡ true → t ≡ type_of f → IsWellTyped t v
    → IfOk r (λ j. view j ≡ json_of f v)
    → IfOk r (λ j. Presents f (view j) v)
written_presents f t v (Ok j) named same typed is =
    let there = rw same at typed in
    rw is (record { shows = shows_written f v named there.is_of; typed = there })
written_presents f t v (Err e) named same typed is = tt
