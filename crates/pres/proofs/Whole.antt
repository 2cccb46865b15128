-- The types of a unit, and then its interfaces, by induction on the types.
use Rattle.std.proofs.Common.{◌≡◌, ◌+◌, ◌≤◌, List, [], ◌∷◌, ◌++◌, map, length, ap, sym, ◌∙◌, subst, length-append, arith}
use Rattle.std.proofs.lemmas.List.{length-map}
use Rattle.wire_def.specs.declared.encoding.Back.{Back}
use Rattle.aoi.specs.Shapes as aoi
use Rattle.aoi.specs.Plain.{plain_interface, plain, plain_shapes}
use Rattle.aoi.specs.Units.{Parts}
use Rattle.aoi.proofs.Plainly.{types_plain}
use Rattle.pres.specs.Drafts.{AreDrawable}
use Rattle.pres.specs.Faces.{Face}
use Rattle.pres.specs.Made.{made_in_types, made_in_interfaces, all_made}
use Rattle.pres.specs.Offers.{face_of, faces_of, type_faces, offers, offers_from}

pub all_nodes : (u : Parts) (b : Back) (xs ks : List Face) → xs ≡ made_in_types [] (aoi.shapes u.types)
    → ks ≡ faces_of [] (aoi.shapes u.types)
    → xs ++ made_in_interfaces ks b (map plain_interface u.interfaces) ≡ all_made (plain u) b
unfolding all_made type_faces
all_nodes u b xs ks a k =
    ap (λ z. z ++ made_in_interfaces ks b (map plain_interface u.interfaces)) a
    ∙ ap (λ z. made_in_types [] (aoi.shapes u.types) ++ made_in_interfaces z b (map plain_interface u.interfaces)) k
    ∙ ap (λ z. made_in_types [] z ++ made_in_interfaces (faces_of [] z) b (map plain_interface u.interfaces)) (types_plain u.types)

pub types_first : (u : Parts) (b : Back) → length (made_in_types [] (aoi.shapes u.types)) ≤ length (all_made (plain u) b)
unfolding all_made
types_first u b =
    let same = ap (λ z. length (made_in_types [] z)) (types_plain u.types) in
    omega (
      arith,
      same,
      length-append (made_in_types [] (plain_shapes (plain u)))
          (made_in_interfaces (type_faces (plain u)) b (plain u).interfaces),
    )

pub all_offers : (u : Parts) (b : Back) (ks : List Face) → ks ≡ faces_of [] (aoi.shapes u.types)
    → offers_from ks b 0 (map plain_interface u.interfaces) ≡ offers (plain u) b
unfolding type_faces
all_offers u b ks k = ap (λ z. offers_from z b 0 (map plain_interface u.interfaces)) (k ∙ ap (faces_of []) (types_plain u.types))

pub faces_count : (fs : List Face) (ss : List aoi.Shape) → length (faces_of fs ss) ≡ length fs + length ss
faces_count fs [] = omega arith
faces_count fs (s ∷ ss) = omega (arith, faces_count (fs ++ face_of fs s ∷ []) ss, length-append fs (face_of fs s ∷ []))

pub types_count : (u : Parts) → length (faces_of [] (aoi.shapes u.types)) ≡ length (plain u).types
types_count u =
    let names : length (plain u).types ≡ length u.types = length-map u.types _ in
    omega (arith, faces_count [] (aoi.shapes u.types), length-map u.types (λ t. aoi.seen t.1), names)

pub types_drawn : (u : Parts) → AreDrawable 0 (plain_shapes (plain u)) → AreDrawable 0 (aoi.shapes u.types)
types_drawn u d = subst (AreDrawable 0) (sym (types_plain u.types)) d
