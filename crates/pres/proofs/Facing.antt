-- A node and its shape unfold to their level over the faces, and faces are of nodes' types, by induction on the nodes.
use Rattle.std.proofs.Common.{◌≡◌, ℕ, zero, suc, ◌+◌, ◌<◌, ◌≤◌, ℤ, List, [], ◌∷◌, ◌++◌, map, length, Option, None, Some, slice_get, refl, sym, ap, ◌∙◌, arith, length-append, add-zero, zero-add}
use Rattle.std.specs.List.{zip, AllByRecursion}
use Rattle.std.proofs.Math.ListN.{get_or-append, get_or-map}
use Rattle.std.proofs.Math.Seq.{get_or-append_seam}
use Rattle.std.proofs.lemmas.List.{map-append}
use Rattle.mint.specs.declared.node.Tag.{Tag}
use Rattle.mint.specs.declared.node.Tag.TheVariants as tag
use Rattle.mint.specs.declared.node.Node.{Node}
use Rattle.mint.specs.declared.node.Node.TheVariants as node
use Rattle.mint.specs.Types as mint
use Rattle.mint.specs.Types.{Ty, void_type, scalar_type, group_type, items_type, choice_type, maybe_type, unfolded_from, unfolded, type_at, AreBelow, IsBelow, HasChildrenBelow}
use Rattle.pres.specs.declared.shape.Shape.{Shape}
use Rattle.pres.specs.declared.shape.Shape.TheVariants.{Plain, FieldNames, LabelNames}
use Rattle.pres.specs.Faces.{Face, nothing, values, members, list, choice, maybe, other, at, parts_at, other_at, arms_at, sign_of, group_face, level, faces_from, faces, face_at, scalar_of, type_of, types_of, arm_types_of}
use Rattle.pres.specs.Named.{IsNamed, AreNamed, IsTagShape}

-- ---- a face is at its level

-- two lists of faces that are alike below k
abbrev pub AgreeBelow : ℕ → List Face → List Face → Type 0
AgreeBelow k fs gs = (i : ℕ) → i < k → at fs i ≡ at gs i

parts_agree : (k : ℕ) (fs gs : List Face) (names : List (List ℕ)) (is : List ℕ) → AgreeBelow k fs gs → AreBelow k is
    → parts_at fs names is ≡ parts_at gs names is
parts_agree k fs gs names [] same below = refl
parts_agree k fs gs [] (i ∷ is) same below = rw (same i below.0, parts_agree k fs gs [] is same below.1) refl
parts_agree k fs gs (n ∷ names) (i ∷ is) same below = rw (same i below.0, parts_agree k fs gs names is same below.1) refl

other_agree : (k : ℕ) (fs gs : List Face) (o : Option ℕ) → AgreeBelow k fs gs → IsBelow k o → other_at fs o ≡ other_at gs o
other_agree k fs gs None same below = refl
other_agree k fs gs (Some i) same below = ap other (same i below)

pub arms_agree : (k : ℕ) (fs gs : List Face) (arms : List (ℤ × ℕ)) (o : Option ℕ) → AgreeBelow k fs gs
    → AllByRecursion (λ a. a.1 < k) arms → IsBelow k o
    → arms_at fs arms o ≡ arms_at gs arms o
arms_agree k fs gs [] o same below last = other_agree k fs gs o same last
arms_agree k fs gs (a ∷ arms) o same below last = rw (same a.1 below.0, arms_agree k fs gs arms o same below.1 last) refl

group_agree : (k : ℕ) (fs gs : List Face) (ids : List ℕ) (s : Shape) → AgreeBelow k fs gs → AreBelow k ids
    → group_face fs ids s ≡ group_face gs ids s
group_agree k fs gs ids Plain same below = ap values (parts_agree k fs gs [] ids same below)
group_agree k fs gs ids (FieldNames names) same below = ap members (parts_agree k fs gs names ids same below)
group_agree k fs gs ids (LabelNames items) same below = ap values (parts_agree k fs gs [] ids same below)

-- a level sees only the children
pub level_agree : (k : ℕ) (fs gs : List Face) (n : Node) (s : Shape) → AgreeBelow k fs gs → HasChildrenBelow k n
    → level fs n s ≡ level gs n s
level_agree k fs gs node.Void s same below = refl
level_agree k fs gs (node.Num x) s same below = refl
level_agree k fs gs (node.Enum x) s same below = refl
level_agree k fs gs (node.Text c) s same below = refl
level_agree k fs gs (node.Row x c) s same below = refl
level_agree k fs gs (node.Group ids) s same below = group_agree k fs gs ids s same below
level_agree k fs gs (node.Items i c) s same below = ap (list c) (same i below)
level_agree k fs gs (node.Choice t arms o) s same below = ap (choice (sign_of t s)) (arms_agree k fs gs arms o same below.0 below.1)
level_agree k fs gs (node.Maybe i) s same below = ap maybe (same i below)

-- what is there stays
stays : (fs : List Face) (parts : List (Node × Shape)) (i : ℕ) → i < length fs → at (faces_from fs parts) i ≡ at fs i
unfolding faces_from
stays fs [] i h = refl
stays fs (p ∷ parts) i h =
    stays (fs ++ level fs p.0 p.1 ∷ []) parts i (omega (arith, length-append fs (level fs p.0 p.1 ∷ [])))
    ∙ get_or-append fs (level fs p.0 p.1 ∷ []) nothing i h

stands : (fs : List Face) (nodes : List Node) (shapes : List Shape) (k : ℕ) (n : Node) (s : Shape)
    → slice_get nodes k ≡ Some n → slice_get shapes k ≡ Some s → HasChildrenBelow (length fs + k) n
    → at (faces_from fs (zip nodes shapes)) (length fs + k) ≡ level (faces_from fs (zip nodes shapes)) n s
unfolding faces_from
stands fs [] shapes k n s is is' below = cc
stands fs (m ∷ nodes) [] k n s is is' below = cc
stands fs (m ∷ nodes) (r ∷ shapes) zero n s is is' below =
    let same : m ≡ n = cc in
    let same' : r ≡ s = cc in
    let more : List Face = fs ++ level fs m r ∷ [] in
    let parts : List (Node × Shape) = zip nodes shapes in
    let long : length more ≡ length fs + 1 = length-append fs (level fs m r ∷ []) in
    let agree : AgreeBelow (length fs) fs (faces_from more parts) =
    λ i h. sym (stays more parts i (omega arith) ∙ get_or-append fs (level fs m r ∷ []) nothing i h) in
    rw add-zero (
    stays more parts (length fs) (omega arith) ∙ get_or-append_seam fs (level fs m r) [] nothing
    ∙ ap (λ z.
    level fs z r) same ∙ ap (level fs n) same' ∙ level_agree (length fs) fs (faces_from more parts) n s agree (rw add-zero at below))
stands fs (m ∷ nodes) (r ∷ shapes) (suc k) n s is is' below =
    let more : List Face = fs ++ level fs m r ∷ [] in
    let long : length more + k ≡ length fs + suc k = omega (arith, length-append fs (level fs m r ∷ [])) in
    rw (← long) (stands more nodes shapes k n s is is' (rw (← long) at below))

pub face_at-level : (nodes : List Node) (shapes : List Shape) (k : ℕ) (n : Node) (s : Shape)
    → slice_get nodes k ≡ Some n → slice_get shapes k ≡ Some s → HasChildrenBelow k n
    → face_at nodes shapes k ≡ level (faces nodes shapes) n s
unfolding faces
face_at-level nodes shapes k n s is is' below = rw zero-add at (stands [] nodes shapes k n s is is' (rw zero-add below))

-- ---- faces of types

type-at : (fs : List Face) (i : ℕ) → mint.at (map type_of fs) i ≡ type_of (at fs i)
type-at fs i = get_or-map type_of fs i nothing

types-at : (fs : List Face) (names : List (List ℕ)) (is : List ℕ) → types_of (parts_at fs names is) ≡ mint.fields_at (map type_of fs) is
types-at fs names [] = refl
types-at fs [] (i ∷ is) = rw (type-at fs i, types-at fs [] is) refl
types-at fs (n ∷ names) (i ∷ is) = rw (type-at fs i, types-at fs names is) refl

other_type-at : (fs : List Face) (o : Option ℕ) → arm_types_of (other_at fs o) ≡ mint.others_at (map type_of fs) o
other_type-at fs None = refl
other_type-at fs (Some i) = rw (type-at fs i) refl

arm_types-at : (fs : List Face) (arms : List (ℤ × ℕ)) (o : Option ℕ)
    → arm_types_of (arms_at fs arms o) ≡ mint.arms_at (map type_of fs) arms o
arm_types-at fs [] o = other_type-at fs o
arm_types-at fs (a ∷ arms) o = rw (type-at fs a.1, arm_types-at fs arms o) refl

group_type-at : (fs : List Face) (ids : List ℕ) (s : Shape)
    → type_of (group_face fs ids s) ≡ group_type (mint.fields_at (map type_of fs) ids)
group_type-at fs ids Plain = ap group_type (types-at fs [] ids)
group_type-at fs ids (FieldNames names) = ap group_type (types-at fs names ids)
group_type-at fs ids (LabelNames items) = ap group_type (types-at fs [] ids)

tag_type : (t : Tag) (s : Shape) → IsTagShape t s → scalar_of (sign_of t s) ≡ mint.scalar_of t
tag_type (tag.Num k) s named = refl
tag_type (tag.Enum labels) Plain named = absurd named
tag_type (tag.Enum labels) (FieldNames names) named = absurd named
tag_type (tag.Enum labels) (LabelNames items) named = ap mint.label (sym named.labels)

pub level_type : (fs : List Face) (n : Node) (s : Shape) → IsNamed n s → type_of (level fs n s) ≡ mint.level (map type_of fs) n
level_type fs node.Void s named = refl
level_type fs (node.Num x) s named = refl
level_type fs (node.Enum labels) s named = ap scalar_type (tag_type (tag.Enum labels) s named)
level_type fs (node.Text c) s named = refl
level_type fs (node.Row x c) s named = refl
level_type fs (node.Group ids) s named = group_type-at fs ids s
level_type fs (node.Items i c) s named = rw (type-at fs i) refl
level_type fs (node.Choice t arms o) s named = rw (tag_type t s named, arm_types-at fs arms o) refl
level_type fs (node.Maybe i) s named = rw (type-at fs i) refl

types_from : (fs : List Face) (nodes : List Node) (shapes : List Shape) → AreNamed nodes shapes
    → map type_of (faces_from fs (zip nodes shapes)) ≡ unfolded_from (map type_of fs) nodes
unfolding faces_from unfolded_from
types_from fs [] [] named = refl
types_from fs [] (s ∷ shapes) named = absurd named
types_from fs (n ∷ nodes) [] named = absurd named
types_from fs (n ∷ nodes) (s ∷ shapes) named =
    types_from (fs ++ level fs n s ∷ []) nodes shapes named.1
    ∙ ap (λ ts. unfolded_from ts nodes) (map-append type_of fs (level fs n s ∷ []) ∙ ap (λ t.
    map type_of fs ++ t ∷ []) (level_type fs n s named.0))

pub types_unfold : (nodes : List Node) (shapes : List Shape) → AreNamed nodes shapes → map type_of (faces nodes shapes) ≡ unfolded nodes
unfolding faces unfolded
types_unfold nodes shapes named = types_from [] nodes shapes named

pub type_at-face : (nodes : List Node) (shapes : List Shape) (i : ℕ) → AreNamed nodes shapes
    → type_at nodes i ≡ type_of (face_at nodes shapes i)
type_at-face nodes shapes i named = sym (ap (λ ts. mint.at ts i) (types_unfold nodes shapes named)) ∙ type-at (faces nodes shapes) i

-- ---- nodes and shapes in step

pub named_at : (nodes : List Node) (shapes : List Shape) (k : ℕ) (n : Node) (s : Shape) → AreNamed nodes shapes
    → slice_get nodes k ≡ Some n → slice_get shapes k ≡ Some s
    → IsNamed n s
named_at [] shapes k n s named is is' = cc
named_at (m ∷ nodes) [] k n s named is is' = cc
named_at (m ∷ nodes) (r ∷ shapes) zero n s named is is' =
    let same : m ≡ n = cc in
    let same' : r ≡ s = cc in
    rw (← same, ← same') named.0
named_at (m ∷ nodes) (r ∷ shapes) (suc k) n s named is is' = named_at nodes shapes k n s named.1 is is'

pub shapeless : (nodes : List Node) (shapes : List Shape) (k : ℕ) → AreNamed nodes shapes → None ≡ slice_get shapes k → length nodes ≤ k
shapeless [] [] k named none = omega arith
shapeless [] (s ∷ shapes) k named none = absurd named
shapeless (n ∷ nodes) [] k named none = absurd named
shapeless (n ∷ nodes) (s ∷ shapes) zero named none = cc
shapeless (n ∷ nodes) (s ∷ shapes) (suc k) named none = let h = shapeless nodes shapes k named.1 none in omega arith
