-- The unit of a file is sound, by induction on its interfaces and on the operations of each.
use Rattle.std.proofs.Common.{◌≡◌, ℕ, ◌+◌, ◌-◌, ◌*◌, ◌^◌, ◌<◌, ◌≤◌, true, nat_le, List, [], ◌∷◌, length, refl, sym, ap, subst, inl, inr, ◌∙◌, arith}
use Rattle.std.specs.Prelude.{Ok}
use Rattle.std.specs.List.{list_all}
use Rattle.std.proofs.lemmas.Bool.{and_from, le-leb, lt-ltb}
use Rattle.aoi.specs.Shapes.{Shape}
use Rattle.aoi.specs.Sound.{is_sound_type, or_void, IsSound}
use Rattle.aoi.specs.Units.{Parts}
use Rattle.aoi.specs.Plain.{PlainOperation, PlainUnit, plain, is_sound_plain_operation, is_sound_plain_interface, is_sound_plain}
use Rattle.aoi.proofs.Plainly.{sound_plain}
use Rattle.idl_names.proofs.Parts.{then_ok, ok_same}
use Rattle.idl_names.proofs.Labelling.{or_void_true}
use Rattle.corba_syntax.specs.declared.definition_tree.Definition.{Definition}
use Rattle.corba_shapes.proofs.Lasting.{raises_sound}
use Rattle.corba_shapes.proofs.Keeping.{shapes_of}
use Rattle.front_corba.specs.State.{PlainOffer, PlainOffering, File, start}
use Rattle.front_corba.specs.Resolved.{definitions_on, operations_of, interface, interfaces, are_fit, unit_of, resolved, is_whole_outermost, IsWhole}
use Rattle.front_corba.proofs.Offering.{ResultIs, OperationIs, OffersAre, SeatedAre}
use Rattle.front_corba.proofs.Keeping.{OfferingsAre, FileIs, start_file, definitions_keep}
use Rattle.idl_names.proofs.Plainness.{plain_sound, members_sound}

result_sound : (types : List Shape) (s : Shape) → ResultIs (length types) s → or_void s (is_sound_type types (length types) s) ≡ true
result_sound types s (inl e) = subst (λ z. or_void z (is_sound_type types (length types) z) ≡ true) (sym e) refl
result_sound types s (inr h) = or_void_true s _ (plain_sound types (length types) s h)

operation_sound : (types : List Shape) (slots : ℕ) (o : PlainOperation) → OperationIs (length types) o → o.slot < slots
    → is_sound_plain_operation types slots o ≡ true
operation_sound types slots o is below =
    let ins = members_sound types (length types) o.ins is.ins in
    let outs = members_sound types (length types) o.outs is.outs in
    let result = result_sound types o.result is.result in
    let few : nat_le (length o.raises) 4095 ≡ true = le-leb (length o.raises) 4095 is.few in
    let raises = raises_sound types o.raises is.raises in
    and_from _ _ (and_from _ _ (and_from _ _ (and_from _ _ (and_from _ _ ins outs) result) few) raises) (lt-ltb o.slot slots below)

operations_sound : (types : List Shape) (slots : ℕ) (os : List PlainOffer) → OffersAre (length types) slots os
    → list_all (is_sound_plain_operation types slots) (operations_of os) ≡ true
operations_sound types slots [] are = refl
operations_sound types slots (o ∷ os) are = and_from _ _ (operation_sound types slots o.operation are.0 are.1.0)
    (operations_sound types slots os are.1.1)

interface_sound : (types : List Shape) (place : ℕ) (i : PlainOffering) → place < 64 → SeatedAre (length types) i.ops
    → is_sound_plain_interface types (interface place i) ≡ true
interface_sound types place i below is =
    let few = is.few in
    let ids : 1000 * (place + 1) + length i.ops + 100 ≤ 2 ^ 31 - 1 = omega (arith, below, few) in
    and_from _ _ (le-leb _ _ ids) (operations_sound types (length i.ops) i.ops is.ops)

interfaces_sound : (types : List Shape) (place : ℕ) (is : List PlainOffering) → place + length is ≤ 64 → OfferingsAre (length types) is
    → list_all (is_sound_plain_interface types) (interfaces place is) ≡ true
interfaces_sound types place [] few are = refl
interfaces_sound types place (i ∷ is) few are =
    and_from _ _ (interface_sound types place i (omega (arith, few)) are.0)
    (interfaces_sound types (place + 1) is (omega (arith, few)) are.1)

file_sound : (s : File) → FileIs s → is_sound_plain (unit_of s) ≡ true
file_sound s is =
    let few = is.few in and_from _ _ is.state.types (interfaces_sound (shapes_of s.state) 0 s.interfaces (omega (arith, few)) is.offerings)

pub resolved_sound : (tree : List Definition) (u : PlainUnit) → list_all is_whole_outermost tree ≡ true → resolved tree ≡ Ok u
    → is_sound_plain u ≡ true
resolved_sound tree u whole h =
    let a = then_ok (definitions_on tree start) _ u h in
    subst (λ z. is_sound_plain z ≡ true) (ok_same (unit_of a.given) u a.rest)
    (file_sound a.given (definitions_keep tree whole start a.given start_file a.first))

pub unit_sound : (tree : List Definition) (u : Parts) → IsWhole tree → resolved tree ≡ Ok (plain u) → IsSound u
unit_sound tree u whole h = sound_plain u ∙ resolved_sound tree (plain u) whole h

-- ---- room in the unit

ops_few : (limit : ℕ) (is : List PlainOffering) → OfferingsAre limit is → list_all (λ i. nat_le (length i.ops) 256) is ≡ true
ops_few limit [] are = refl
ops_few limit (i ∷ is) are = and_from _ _ (le-leb (length i.ops) 256 are.0.few) (ops_few limit is are.1)

-- the interfaces of a file fit into a unit
fit : (tree : List Definition) (s : File) → IsWhole tree → definitions_on tree start ≡ Ok s → are_fit s.interfaces ≡ true
fit tree s whole h =
    let is = definitions_keep tree whole start s start_file h in
    and_from _ _ (and_from _ _ (le-leb (length s.interfaces) 64 is.few) is.apart)
    (ops_few (length (shapes_of s.state)) s.interfaces is.offerings)

-- the same of definitions that are walked from nothing
pub fit_after : (tree list : List Definition) (s out : File) → IsWhole tree → list ≡ tree → s ≡ start → definitions_on list s ≡ Ok out
    → are_fit out.interfaces ≡ true
fit_after tree list s out whole is begun h =
    let a : definitions_on list start ≡ definitions_on tree start = ap (λ z. definitions_on z start) is in
    let b : definitions_on list s ≡ definitions_on list start = ap (definitions_on list) begun in
    fit tree out whole (sym (b ∙ a) ∙ h)
