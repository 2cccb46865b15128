-- An interface among others, as plain trees.
use Rattle.std.proofs.Common.{◌≡◌, ℕ, ◌+◌, true, false, List, [], ◌∷◌, ◌++◌, map, ◌↔◌, refl, sym, ap, ◌∙◌}
use Rattle.std.specs.Prelude.{Result, Ok, Err}
use Rattle.std.specs.List.{list_any}
use Rattle.aoi.specs.declared.interfaces.Interface.{Interface}
use Rattle.aoi.specs.declared.faults.NameFault.TheVariants.{Twice}
use Rattle.aoi.specs.declared.units.UnitErr.{UnitErr}
use Rattle.aoi.specs.declared.units.UnitErr.TheVariants as err
use Rattle.aoi.specs.Plain.{plain_interface}
use Rattle.aoi.specs.Units.{Parts, is_twice}
use Rattle.idl_names.specs.Answers.{fault}
use Rattle.idl_names.proofs.Tables.{any_map, append_map}
use Rattle.front_onc.specs.Held.{Held, state}
use Rattle.front_onc.specs.Programs.{offered, are_twins}
use Rattle.std.proofs.lemmas.Bool.{false_from_ne_true}

twins : (i : Interface) (is : List Interface) → list_any (λ j. are_twins j (plain_interface i)) (map plain_interface is) ≡ is_twice i is
twins i is = sym (any_map (λ j. are_twins j (plain_interface i)) plain_interface is)

pub offer_ok : (d : ℕ) (i : Interface) (h now : Held) (unit : Parts) (r : Result (Unit {0}) UnitErr) (x : Unit {0})
    → (r ≡ Err err.Twice) ↔ (is_twice i h.unit.interfaces ≡ true) → r ≡ Ok x
    → unit ≡ record h.unit { interfaces = h.unit.interfaces ++ i ∷ [] } → h ≡ now
    → offered d (plain_interface i) (state now) ≡ Ok (state (record h { unit = unit; versions = h.versions + 1 }))
offer_ok d i h now unit r x twice ok is view =
    let none : list_any (λ j. are_twins j (plain_interface i)) (map plain_interface h.unit.interfaces) ≡ false =
    twins i h.unit.interfaces ∙ false_from_ne_true (is_twice i h.unit.interfaces) (λ t. let no = sym ok ∙ twice.1 t in absurd cc) in
    let here : offered d (plain_interface i) (state h) ≡ Ok (state (record h { unit = unit; versions = h.versions + 1 })) =
    rw (none, is)
    (ap (λ z.
    Ok (record (state h) { interfaces = z; versions = h.versions + 1 })) (sym (append_map plain_interface h.unit.interfaces i))) in
    ap (λ z. offered d (plain_interface i) (state z)) (sym view) ∙ here

pub offer_twice : (d : ℕ) (i : Interface) (h now : Held) (r : Result (Unit {0}) UnitErr)
    → (r ≡ Err err.Twice) ↔ (is_twice i h.unit.interfaces ≡ true) → r ≡ Err err.Twice → h ≡ now
    → offered d (plain_interface i) (state now) ≡ fault Twice d
offer_twice d i h now r twice is view =
    let some : list_any
    (λ j. are_twins j (plain_interface i)) (map plain_interface h.unit.interfaces) ≡ true = twins i h.unit.interfaces ∙ twice.0 is in
    let here : offered d (plain_interface i) (state h) ≡ fault Twice d = rw some refl in
    ap (λ z. offered d (plain_interface i) (state z)) (sym view) ∙ here
