-- The unit of a file is sound, by induction on its operations.
use Rattle.std.proofs.Common.{◌≡◌, ℕ, true, not, nat_le, List, [], ◌∷◌, length, refl, sym, ap, subst, ◌∙◌}
use Rattle.std.specs.Prelude.{Result, Ok, Err, IfOk}
use Rattle.std.specs.List.{list_all}
use Rattle.std.proofs.lemmas.Bool.{and_from, lt-ltb, not-false}
use Rattle.std.proofs.lemmas.List.{length-map}
use Rattle.aoi.specs.declared.faults.NameErr.{NameErr}
use Rattle.aoi.specs.declared.faults.NameFault.TheVariants.{Range}
use Rattle.aoi.specs.Shapes.{Shape}
use Rattle.aoi.specs.Sound.{is_sound_type, or_void, IsSound}
use Rattle.aoi.specs.Units.{Parts}
use Rattle.aoi.specs.Plain.{PlainRaise, PlainOperation, PlainUnit, plain, is_sound_plain_raise, is_sound_plain_operation, is_sound_plain}
use Rattle.aoi.proofs.Plainly.{sound_plain}
use Rattle.idl_exprs.specs.Trees.{Tree}
use Rattle.mig_syntax.specs.declared.tree.Statement.{Statement}
use Rattle.mig_syntax.specs.declared.tree.Subsystem.{Subsystem}
use Rattle.idl_names.specs.Answers.{refused, natural}
use Rattle.front_mig.specs.Numbers.{value, ids_fit, base_of}
use Rattle.front_mig.specs.State.{State, start}
use Rattle.front_mig.specs.Resolved.{stated_on, unit_of, resolved}
use Rattle.idl_names.proofs.Parts.{then_ok, refused_ok, ok_same}
use Rattle.front_mig.proofs.Standing.{types_sound}
use Rattle.front_mig.proofs.Keeping.{OperationIs, OperationsAre, members_sound, shapes_of, StateIs, statements_keep}

operation_sound : (types : List Shape) (slots : ℕ) (o : PlainOperation) → OperationIs (length types) slots o
    → is_sound_plain_operation types slots o ≡ true
operation_sound types slots o is =
    let ins = members_sound types (length types) o.ins is.ins in
    let outs = members_sound types (length types) o.outs is.outs in
    let result : or_void o.result (is_sound_type types (length types) o.result)
    ≡ true = ap (λ z. or_void z (is_sound_type types (length types) z)) is.result in
    let few : nat_le (length o.raises) 4095 ≡ true = ap (λ (z : List PlainRaise). nat_le (length z) 4095) is.raises in
    let raises : list_all (is_sound_plain_raise types) o.raises ≡ true = ap (list_all (is_sound_plain_raise types)) is.raises in
    and_from _ _ (and_from _ _ (and_from _ _ (and_from _ _ (and_from _ _ ins outs) result) few) raises) (lt-ltb o.slot slots is.slot)

operations_sound : (types : List Shape) (slots : ℕ) (os : List PlainOperation) → OperationsAre (length types) slots os
    → list_all (is_sound_plain_operation types slots) os ≡ true
operations_sound types slots [] are = refl
operations_sound types slots (o ∷ os) are = and_from _ _ (operation_sound types slots o are.0) (operations_sound types slots os are.1)

state_sound : (name : List ℕ) (base : ℕ) (s : State) → StateIs base s → is_sound_plain (unit_of name base s) ≡ true
state_sound name base s is =
    let view : List ℕ × Shape → Shape = λ t. t.1 in
    let types = types_sound (shapes_of s) 0 (shapes_of s) is.types in
    let ops : OperationsAre (length (shapes_of s)) s.slots s.ops =
    subst (λ z. OperationsAre z s.slots s.ops) (sym (length-map s.types view)) is.ops in
    and_from _ _ types (and_from _ _ (and_from _ _ is.ids (operations_sound (shapes_of s) s.slots s.ops ops)) refl)

base_fits : (d : ℕ) (e : Tree) (base : ℕ) → base_of d e ≡ Ok base → ids_fit base 0 ≡ true
base_fits d e base h =
    let a = then_ok (value d e) _ base h in
    let b = then_ok (natural 0 d a.given) _ base a.rest in
    let c = then_ok (refused Range d (not (ids_fit b.given 0))) _ base b.rest in
    subst (λ z. ids_fit z 0 ≡ true) (ok_same b.given base c.rest) (not-false _ (refused_ok Range d _ c.given c.first))

pub resolved_sound : (tree : Subsystem) (u : PlainUnit) → resolved tree ≡ Ok u → is_sound_plain u ≡ true
resolved_sound tree u h =
    let a = then_ok (base_of 1 tree.base) _ u h in
    let b = then_ok (stated_on a.given 1 start tree.statements) _ u a.rest in
    let first : StateIs a.given start = record { types = tt; scope = tt; ops = tt; ids = base_fits 1 tree.base a.given a.first } in
    subst
    (λ z.
    is_sound_plain z ≡ true) (ok_same (unit_of tree.name a.given b.given) u b.rest)
    (state_sound tree.name a.given b.given (statements_keep a.given 1 start b.given tree.statements first b.first))

-- what is made of a state after statements is sound, if it is made
pub made_sound : (e : Tree) (base : ℕ) (name : List ℕ) (list : List Statement) (s0 s : State) (r : Result Parts NameErr)
    → base_of 1 e ≡ Ok base → s0 ≡ start → stated_on base 1 s0 list ≡ Ok s
    → IfOk r (λ (u : Parts). plain u ≡ unit_of name base s) → IfOk r (λ (u : Parts). IsSound u)
made_sound e base name list s0 s (Ok u) first is stands made =
    let begun : StateIs base start = record { types = tt; scope = tt; ops = tt; ids = base_fits 1 e base first } in
    let kept = statements_keep base 1 s0 s list (subst (StateIs base) (sym is) begun) stands in
    sound_plain u ∙ subst (λ z. is_sound_plain z ≡ true) (sym made) (state_sound name base s kept)
made_sound e base name list s0 s (Err f) first is stands made = tt
