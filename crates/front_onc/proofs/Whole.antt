-- The unit of a file is sound, by induction on its interfaces and on the operations of each.
use Rattle.std.proofs.Common.{◌≡◌, ℕ, true, nat_le, List, [], ◌∷◌, length, refl, sym, ap, subst, inl, inr, ◌∙◌}
use Rattle.std.specs.Prelude.{Ok}
use Rattle.std.specs.List.{list_all}
use Rattle.std.proofs.lemmas.Bool.{and_from, le-leb, lt-ltb}
use Rattle.aoi.specs.Shapes.{Shape}
use Rattle.aoi.specs.Sound.{is_sound_type, are_sound, or_void, IsSound}
use Rattle.aoi.specs.Units.{Parts}
use Rattle.aoi.specs.Plain.{PlainRaise, PlainOperation, PlainInterface, PlainUnit, plain, is_sound_plain_raise, is_sound_plain_operation, is_sound_plain_interface, is_sound_plain}
use Rattle.aoi.proofs.Plainly.{sound_plain}
use Rattle.onc_syntax.specs.declared.tree.Def.{Def}
use Rattle.idl_names.proofs.Labelling.{or_void_true}
use Rattle.front_onc.specs.State.{State}
use Rattle.front_onc.specs.Resolved.{defined_on, start, resolved, is_whole, IsWhole}
use Rattle.idl_names.proofs.Parts.{then_ok, ok_same}
use Rattle.front_onc.proofs.Offering.{ResultIs, OperationIs, OperationsAre, InterfacesAre, shapes_of}
use Rattle.front_onc.proofs.Keeping.{StateIs, defined_all, start_is}
use Rattle.idl_names.proofs.Plainness.{plain_sound, members_sound}

result_sound : (types : List Shape) (s : Shape) → ResultIs (length types) s → or_void s (is_sound_type types (length types) s) ≡ true
result_sound types s (inl e) = subst (λ z. or_void z (is_sound_type types (length types) z) ≡ true) (sym e) refl
result_sound types s (inr h) = or_void_true s _ (plain_sound types (length types) s h)

operation_sound : (types : List Shape) (slots : ℕ) (o : PlainOperation) → OperationIs (length types) slots o
    → is_sound_plain_operation types slots o ≡ true
operation_sound types slots o is =
    let ins = members_sound types (length types) o.ins is.ins in
    let outs : are_sound types (length types) o.outs ≡ true = ap (are_sound types (length types)) is.outs in
    let result = result_sound types o.result is.result in
    let few : nat_le (length o.raises) 4095 ≡ true = ap (λ (z : List PlainRaise). nat_le (length z) 4095) is.raises in
    let raises : list_all (is_sound_plain_raise types) o.raises ≡ true = ap (list_all (is_sound_plain_raise types)) is.raises in
    and_from _ _ (and_from _ _ (and_from _ _ (and_from _ _ (and_from _ _ ins outs) result) few) raises) (lt-ltb o.slot slots is.slot)

operations_sound : (types : List Shape) (slots : ℕ) (os : List PlainOperation) → OperationsAre (length types) slots os
    → list_all (is_sound_plain_operation types slots) os ≡ true
operations_sound types slots [] are = refl
operations_sound types slots (o ∷ os) are = and_from _ _ (operation_sound types slots o are.0) (operations_sound types slots os are.1)

interfaces_sound : (types : List Shape) (is : List PlainInterface) → InterfacesAre (length types) is
    → list_all (is_sound_plain_interface types) is ≡ true
interfaces_sound types [] are = refl
interfaces_sound types (i ∷ is) are = and_from _ _ (and_from _ _ (le-leb _ _ are.0.ids) (operations_sound types i.slots i.ops are.0.ops))
    (interfaces_sound types is are.1)

state_sound : (s : State) → StateIs s → is_sound_plain (record { types = s.types; interfaces = s.interfaces }) ≡ true
state_sound s is = and_from _ _ is.types (interfaces_sound (shapes_of s) s.interfaces is.interfaces)

pub resolved_sound : (tree : List Def) (u : PlainUnit) → list_all is_whole tree ≡ true → resolved tree ≡ Ok u → is_sound_plain u ≡ true
resolved_sound tree u whole h =
    let a = then_ok (defined_on start tree) _ u h in
    let made : PlainUnit = record { types = a.given.types; interfaces = a.given.interfaces } in
    subst
    (λ z.
    is_sound_plain z ≡ true) (ok_same made u a.rest) (state_sound a.given (defined_all start a.given tree start_is whole a.first))

pub unit_sound : (tree : List Def) (u : Parts) → IsWhole tree → resolved tree ≡ Ok (plain u) → IsSound u
unit_sound tree u whole h = sound_plain u ∙ resolved_sound tree (plain u) whole h
