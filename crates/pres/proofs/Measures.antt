-- Sizes up to a limit are those of faces, by induction on the fields and on the arms.
use Rattle.std.proofs.Common.{◌≡◌, ℕ, zero, suc, ◌+◌, ◌<◌, min, max, ℤ, List, [], ◌∷◌, ◌++◌, map, take, length, Option, None, Some, refl, sym, ap, ◌∙◌, arith}
use Rattle.std.proofs.Math.ListN.{get_or-map}
use Rattle.std.proofs.lemmas.List.{map_more}
use Rattle.mint.specs.Blank.{depth, fields_depth, arms_depth}
use Rattle.mint.specs.declared.node.Node.{Node}
use Rattle.mint.specs.declared.node.Node.TheVariants as node
use Rattle.mint.specs.Types.{AreBelow, ArmsBelow, IsBelow, HasChildrenBelow}
use Rattle.pres.specs.declared.sizes.Size.{Size}
use Rattle.pres.specs.declared.shape.Shape.{Shape}
use Rattle.pres.specs.declared.shape.Shape.TheVariants.{Plain, FieldNames, LabelNames}
use Rattle.pres.specs.Faces.{Face, nothing, at, parts_at, arms_at, group_face, level, type_of, types_of, arm_types_of}
use Rattle.pres.specs.Faults.{spread, spread_inside, spread_after}
use Rattle.pres.specs.Sizes as sizes
use Rattle.pres.specs.Sizes.{sized, size_of, size_inside, size_after, beside, over, inside_at, after_at, size_at}

over_sized : (d n : ℕ) → over (sized d n) ≡ sized (suc d) (suc n)
over_sized d n =
    let a : min (suc (min d 33)) 33 ≡ min (suc d) 33 = omega arith in
    let b : min (suc (min n 65537)) 65537 ≡ min (suc n) 65537 = omega arith in
    rw (a, b) refl

beside_sized : (d n e m : ℕ) → beside (sized d n) (sized e m) ≡ sized (max d e) (n + m)
beside_sized d n e m =
    let a : min (max (min d 33) (min e 33)) 33 ≡ min (max d e) 33 = omega arith in
    let b : min (min n 65537 + min m 65537) 65537 ≡ min (n + m) 65537 = omega arith in
    rw (a, b) refl

pub at_take : (fs : List Face) (k i : ℕ) → i < k → at (take k fs) i ≡ at fs i
at_take fs zero i h = absurd (omega arith)
at_take [] (suc k) i h = refl
at_take (f ∷ fs) (suc k) zero h = refl
at_take (f ∷ fs) (suc k) (suc i) h = at_take fs k i (omega arith)

size-at : (fs : List Face) (k i : ℕ) → i < k → sizes.at (map size_of (take k fs)) i ≡ size_of (at fs i)
size-at fs k i h = get_or-map size_of (take k fs) i nothing ∙ ap size_of (at_take fs k i h)

inside-at : (fs : List Face) (k : ℕ) (names : List (List ℕ)) (is : List ℕ) → AreBelow k is
    → inside_at (map size_of (take k fs)) is ≡ size_inside (parts_at fs names is)
inside-at fs k names [] below = refl
inside-at fs k [] (i ∷ is) below =
    rw (size-at fs k i below.0, inside-at fs k [] is below.1)
    (beside_sized (depth (type_of (at fs i))) (spread (at fs i)) (fields_depth (types_of (parts_at fs [] is)))
    (spread_inside (parts_at fs [] is)))
inside-at fs k (n ∷ names) (i ∷ is) below =
    rw (size-at fs k i below.0, inside-at fs k names is below.1)
    (beside_sized (depth (type_of (at fs i))) (spread (at fs i)) (fields_depth (types_of (parts_at fs names is)))
    (spread_inside (parts_at fs names is)))

after-at : (fs : List Face) (k : ℕ) (arms : List (ℤ × ℕ)) (o : Option ℕ) → ArmsBelow k arms → IsBelow k o
    → after_at (map size_of (take k fs)) arms o ≡ size_after (arms_at fs arms o)
after-at fs k [] None below last = refl
after-at fs k [] (Some i) below last = size-at fs k i last
after-at fs k (a ∷ arms) o below last =
    rw (size-at fs k a.1 below.0, after-at fs k arms o below.1 last)
    (beside_sized (depth (type_of (at fs a.1))) (spread (at fs a.1)) (arms_depth (arm_types_of (arms_at fs arms o)))
    (spread_after (arms_at fs arms o)))

group-at : (fs : List Face) (k : ℕ) (ids : List ℕ) (s : Shape) → AreBelow k ids
    → over (inside_at (map size_of (take k fs)) ids) ≡ size_of (group_face fs ids s)
group-at fs k ids Plain below = ap over (inside-at fs k [] ids below)
    ∙ over_sized (fields_depth (types_of (parts_at fs [] ids))) (spread_inside (parts_at fs [] ids))
group-at fs k ids (FieldNames names) below = ap over (inside-at fs k names ids below)
    ∙ over_sized (fields_depth (types_of (parts_at fs names ids))) (spread_inside (parts_at fs names ids))
group-at fs k ids (LabelNames items) below = ap over (inside-at fs k [] ids below)
    ∙ over_sized (fields_depth (types_of (parts_at fs [] ids))) (spread_inside (parts_at fs [] ids))

size_level : (fs : List Face) (k : ℕ) (n : Node) (s : Shape) → HasChildrenBelow k n
    → size_at (map size_of (take k fs)) n ≡ size_of (level fs n s)
size_level fs k node.Void s below = refl
size_level fs k (node.Num x) s below = refl
size_level fs k (node.Enum x) s below = refl
size_level fs k (node.Text c) s below = refl
size_level fs k (node.Row x c) s below = refl
size_level fs k (node.Group ids) s below = group-at fs k ids s below
size_level fs k (node.Items i c) s below = ap over (size-at fs k i below) ∙ over_sized (depth (type_of (at fs i))) (spread (at fs i))
size_level fs k (node.Choice t arms o) s below = ap over (after-at fs k arms o below.0 below.1)
    ∙ over_sized (arms_depth (arm_types_of (arms_at fs arms o))) (spread_after (arms_at fs arms o))
size_level fs k (node.Maybe i) s below = ap over (size-at fs k i below) ∙ over_sized (depth (type_of (at fs i))) (spread (at fs i))

pub sizes_on : (fs : List Face) (k : ℕ) (n : Node) (s : Shape) (old slice new : List Size) (size : Size) → k < length fs
    → HasChildrenBelow k n → at fs k ≡ level fs n s → slice ≡ old → old ≡ map size_of (take k fs)
    → size ≡ size_at slice n → new ≡ old ++ size ∷ []
    → new ≡ map size_of (take (k + 1) fs)
sizes_on fs k n s old slice new size lt below is slice_is old_is size_is new_is =
    let one : size ≡ size_of (at fs k) = size_is
    ∙ ap (λ z. size_at z n) (slice_is ∙ old_is) ∙ size_level fs k n s below ∙ ap size_of (sym is) in
    new_is ∙ ap (λ z. z ++ size ∷ []) old_is ∙ ap (λ z. map size_of (take k fs) ++ z ∷ []) one ∙ sym (map_more size_of fs k nothing lt)
