-- The operations of a binding are those of its unit, by induction on the interfaces.
use Rattle.std.proofs.Common.{◌≡◌, ◌<◌, ℕ, zero, suc, List, [], ◌∷◌, ◌++◌, map, length, Some, refl, sym, ap, ◌∙◌, arith}
use Rattle.std.specs.Prelude.{slice_get, slice_index_or}
use Rattle.std.proofs.lemmas.List.{map-append}
use Rattle.std.proofs.lemmas.Simd.{map-map}
use Rattle.wire_def.specs.declared.encoding.Back.{Back}
use Rattle.aoi.specs.Plain.{PlainInterface, PlainOperation}
use Rattle.pres.specs.declared.ops.Op.{Op}
use Rattle.pres.specs.Faces.{Face, at, faces, type_of}
use Rattle.pres.specs.Offers.{Offer, operations, offer, offers_from, offer_at, request_of, type_faces}
use Rattle.pres.proofs.Facing.{type_at-face}
use Rattle.flick_engine.specs.Laws.{AreTheUnits, AreAskedFor}
use Rattle.flick_engine.specs.Operations.{operations_in}
use Rattle.flick_engine.proofs.HeadsOfBacks.{asked_for}
use Rattle.stub_codes.proofs.Places.{placed}

-- what goes into an operation with its interface
abbrev request_at : List Face → PlainInterface × PlainOperation → Face
request_at fs q = request_of fs q.1

abbrev request_in : Offer → Face
request_in x = x.request

first_requests : (fs : List Face) (k : Back) (n : ℕ) (i : PlainInterface) → map request_in (map (offer fs k n) (operations k i))
    ≡ map (request_at fs) (map (λ (p : PlainOperation). (i, p)) (operations k i))
first_requests fs k n i = map-map request_in (offer fs k n) (operations k i)
    ∙ sym (map-map (request_at fs) (λ (p : PlainOperation). (i, p)) (operations k i))

-- what goes into the operations that are offered
requests : (fs : List Face) (k : Back) (n : ℕ) (is : List PlainInterface) → map request_in (offers_from fs k n is)
    ≡ map (request_at fs) (operations_in k is)
requests fs k n [] = refl
requests fs k n (i ∷ is) =
    map-append request_in (map (offer fs k n) (operations k i)) (offers_from fs k (suc n) is)
    ∙ ap (λ (l : List Face). l ++ map request_in (offers_from fs k (suc n) is)) (first_requests fs k n i)
    ∙ ap (λ (l : List Face). map (request_at fs) (map (λ (p : PlainOperation). (i, p)) (operations k i)) ++ l) (requests fs k (suc n) is)
    ∙ sym (map-append (request_at fs) (map (λ (p : PlainOperation). (i, p)) (operations k i)) (operations_in k is))

-- the face of an operation's request
face_there : (gs : List Face) (os : List Op) (n : ℕ) → n < length os
    → slice_get (map request_in (map (offer_at gs) os)) n ≡ Some (at gs (slice_index_or (map (λ (o : Op). o.request) os) n 0))
face_there gs [] n h = absurd (omega (arith, h))
face_there gs (o ∷ os) zero h = refl
face_there gs (o ∷ os) (suc n) h = face_there gs os n (omega (arith, h))

pub are_the_units : AreTheUnits
are_the_units b op stands h =
    let all = ap (map request_in) stands.offered ∙ requests (type_faces b.unit) b.back 0 b.unit.interfaces in
    let there = ap (λ (l : List Face). slice_get l op) (sym all) ∙ face_there (faces b.nodes b.shapes) b.ops op h in
    let (q, is, same) = placed (request_at (type_faces b.unit)) (operations_in b.back b.unit.interfaces) op _ there in (
      q.0,
      q.1,
      is,
      type_at-face b.nodes b.shapes (slice_index_or (map (λ (o : Op). o.request) b.ops) op 0) stands.named ∙ ap type_of (sym same),
    )

pub are_asked_for : AreAskedFor
are_asked_for b o c op begins names = asked_for b o c op begins names
