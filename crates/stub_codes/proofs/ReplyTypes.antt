-- What comes back from an operation of a binding is what its unit has: a choice of the answer and the exceptions, by
-- induction on the interfaces.
use Rattle.std.proofs.Common.{◌≡◌, ◌<◌, ℕ, zero, suc, List, [], ◌∷◌, ◌++◌, map, length, Some, refl, sym, ap, ◌∙◌, arith}
use Rattle.std.specs.Prelude.{slice_get, slice_index_or}
use Rattle.std.proofs.lemmas.List.{map-append}
use Rattle.std.proofs.lemmas.Simd.{map-map}
use Rattle.wire_def.specs.declared.encoding.Back.{Back}
use Rattle.aoi.specs.Plain.{PlainInterface, PlainOperation}
use Rattle.pres.specs.declared.ops.Op.{Op}
use Rattle.pres.specs.Bindings.{Binding, IsBinding}
use Rattle.pres.specs.Faces.{Face, at, faces, type_of}
use Rattle.pres.specs.Offers.{Offer, operations, offer, offers_from, offer_at, reply_of, type_faces}
use Rattle.pres.proofs.Facing.{type_at-face}
use Rattle.stub_codes.specs.Operations.{operations_in, IsOperation}
use Rattle.stub_codes.specs.Replies.{reply_type}
use Rattle.stub_codes.proofs.Places.{placed}

-- what comes back from an operation with its interface
abbrev reply_at : List Face → PlainInterface × PlainOperation → Face
reply_at fs q = reply_of fs q.1

abbrev reply_in : Offer → Face
reply_in x = x.reply

first_replies : (fs : List Face) (k : Back) (n : ℕ) (i : PlainInterface)
    → map reply_in (map (offer fs k n) (operations k i)) ≡ map (reply_at fs) (map (λ (p : PlainOperation). (i, p)) (operations k i))
first_replies fs k n i = map-map reply_in (offer fs k n) (operations k i)
    ∙ sym (map-map (reply_at fs) (λ (p : PlainOperation). (i, p)) (operations k i))

-- what comes back from the operations that are offered
replies : (fs : List Face) (k : Back) (n : ℕ) (is : List PlainInterface) → map reply_in (offers_from fs k n is)
    ≡ map (reply_at fs) (operations_in k is)
replies fs k n [] = refl
replies fs k n (i ∷ is) =
    map-append reply_in (map (offer fs k n) (operations k i)) (offers_from fs k (suc n) is)
    ∙ ap (λ (l : List Face). l ++ map reply_in (offers_from fs k (suc n) is)) (first_replies fs k n i)
    ∙ ap (λ (l : List Face). map (reply_at fs) (map (λ (p : PlainOperation). (i, p)) (operations k i)) ++ l) (replies fs k (suc n) is)
    ∙ sym (map-append (reply_at fs) (map (λ (p : PlainOperation). (i, p)) (operations k i)) (operations_in k is))

-- the face of an operation's reply
face_there : (gs : List Face) (os : List Op) (n : ℕ) → n < length os
    → slice_get (map reply_in (map (offer_at gs) os)) n ≡ Some (at gs (slice_index_or (map (λ (o : Op). o.reply) os) n 0))
face_there gs [] n h = absurd (omega (arith, h))
face_there gs (o ∷ os) zero h = refl
face_there gs (o ∷ os) (suc n) h = face_there gs os n (omega (arith, h))

-- each operation is one of the unit, and what comes back is what that one has
pub are_the_replies : (b : Binding) (op : ℕ) → IsBinding b → op < length b.ops
    → (i : PlainInterface) × (p : PlainOperation) × IsOperation b op i p
    × (reply_type b op ≡ type_of (reply_of (type_faces b.unit) p))
are_the_replies b op stands h =
    let all = ap (map reply_in) stands.offered ∙ replies (type_faces b.unit) b.back 0 b.unit.interfaces in
    let there = ap (λ (l : List Face). slice_get l op) (sym all) ∙ face_there (faces b.nodes b.shapes) b.ops op h in
    let (q, is, same) = placed (reply_at (type_faces b.unit)) (operations_in b.back b.unit.interfaces) op _ there in (
      q.0,
      q.1,
      is,
      type_at-face b.nodes b.shapes (slice_index_or (map (λ (o : Op). o.reply) b.ops) op 0) stands.named ∙ ap type_of (sym same),
    )
