-- How many operations a binding has, by induction on the interfaces.
use Rattle.std.proofs.Common.{◌≡◌, ◌*◌, ◌^◌, ◌<◌, ◌≤◌, ℕ, suc, Bool, true, false, List, [], ◌∷◌, map, length, length-append, if◌then◌else◌, refl, sym, ap, ◌∙◌, arith}
use Rattle.std.specs.Prelude.{flat_map}
use Rattle.std.proofs.lemmas.List.{length-map}
use Rattle.kit_base.specs.Limits.{most_interfaces}
use Rattle.wire_def.specs.declared.encoding.Back.{Back}
use Rattle.aoi.specs.declared.interfaces.Interface.{Interface}
use Rattle.aoi.specs.Plain.{PlainInterface, plain_interface, plain_operation}
use Rattle.aoi.specs.Units.{AreApart}
use Rattle.pres.specs.Bindings.{Binding, IsBinding}
use Rattle.pres.specs.Faces.{Face, faces}
use Rattle.pres.specs.Offers.{null_operation, gets_null, gotten, operations, offer, offers_from, offer_at, type_faces}

-- ---- they are few

at_most_one : (t : Bool) → length (if t then null_operation ∷ [] else []) ≤ 1
at_most_one true = omega arith
at_most_one false = omega arith

-- each interface has at most 256 operations of its own, and one that it gets
offers_few : (fs : List Face) (b : Back) (k : ℕ) (is : List Interface) → AreApart is
    → length (offers_from fs b k (map plain_interface is)) ≤ 257 * length is
offers_few fs b k [] apart = omega arith
offers_few fs b k (i ∷ is) apart =
    let j : PlainInterface = plain_interface i in
    let one : length (gotten b j) ≤ 1 = at_most_one (gets_null b j) in
    let own : length j.ops ≡ length i.ops = length-map i.ops plain_operation in
    omega (
      arith,
      one,
      own,
      length-append j.ops (gotten b j),
      length-map (operations b j) (offer fs b k),
      length-append (map (offer fs b k) (operations b j)) (offers_from fs b (suc k) (map plain_interface is)),
      apart.1,
      offers_few fs b (suc k) is apart.2,
    )

pub operations_few : (b : Binding) (is : List Interface) → IsBinding b → map plain_interface is ≡ b.unit.interfaces → AreApart is
    → length is ≤ most_interfaces → length b.ops < 2 ^ 32
operations_few b is stands same apart most =
    omega (
      arith,
      length-map b.ops (offer_at (faces b.nodes b.shapes)),
      ap length stands.offered,
      ap (λ (js : List PlainInterface). length (offers_from (type_faces b.unit) b.back 0 js)) same,
      offers_few (type_faces b.unit) b.back 0 is apart,
      most,
    )

-- ---- they are as many as what a back end has of each interface, in place of an operation one thing

module _ {T : Type 0} (of_one : PlainInterface → List T) where
  length-offers : (fs : List Face) (b : Back) (k : ℕ) (is : List PlainInterface)
      → ((i : PlainInterface) → length (of_one i) ≡ length (operations b i))
      → length (offers_from fs b k is) ≡ length (flat_map of_one is)
  length-offers fs b k [] each = refl
  length-offers fs b k (i ∷ is) each =
      omega (
        arith,
        each i,
        length-map (operations b i) (offer fs b k),
        length-append (map (offer fs b k) (operations b i)) (offers_from fs b (suc k) is),
        length-append (of_one i) (flat_map of_one is),
        length-offers fs b (suc k) is each,
      )

  pub counted : (b : Binding) → IsBinding b → ((i : PlainInterface) → length (of_one i) ≡ length (operations b.back i))
      → length (flat_map of_one b.unit.interfaces) ≡ length b.ops
  counted b stands each =
      sym (length-offers (type_faces b.unit) b.back 0 b.unit.interfaces each) ∙ ap length (sym stands.offered)
      ∙ length-map b.ops (offer_at (faces b.nodes b.shapes))
