-- A unit is sound where its plain tree is, by induction on the lists of its parts.
use Rattle.std.proofs.Common.{◌≡◌, Bool, true, false, ℕ, ◌&&◌, List, [], ◌∷◌, map, refl, sym, ap, ◌∙◌}
use Rattle.std.specs.List.{list_all}
use Rattle.std.proofs.lemmas.List.{length-map}
use Rattle.aoi.specs.declared.types.Ty.{Ty}
use Rattle.aoi.specs.declared.interfaces.Interface.{Interface}
use Rattle.aoi.specs.declared.interfaces.Operation.{Operation}
use Rattle.aoi.specs.declared.interfaces.Raise.{Raise}
use Rattle.aoi.specs.Shapes.{Shape, seen, shapes}
use Rattle.aoi.specs.Sound.{is_sound_raise, is_sound_operation, is_sound_interface, is_sound, are_sound_types}
use Rattle.aoi.specs.Units.{Parts}
use Rattle.aoi.specs.Plain.{plain, plain_raise, plain_operation, plain_interface, is_sound_plain_raise, is_sound_plain_operation, is_sound_plain_interface, is_sound_plain}

raises_plain : (types : List Shape) (rs : List Raise)
    → list_all (is_sound_raise types) rs ≡ list_all (is_sound_plain_raise types) (map plain_raise rs)
raises_plain types [] = refl
raises_plain types (r ∷ rs) = ap (λ z. is_sound_raise types r && z) (raises_plain types rs)

operation_plain : (types : List Shape) (slots : ℕ) (o : Operation)
    → is_sound_operation types slots o ≡ is_sound_plain_operation types slots (plain_operation o)
operation_plain types slots o = rw (length-map o.raises plain_raise, raises_plain types o.raises) refl

operations_plain : (types : List Shape) (slots : ℕ) (os : List Operation)
    → list_all (is_sound_operation types slots) os ≡ list_all (is_sound_plain_operation types slots) (map plain_operation os)
operations_plain types slots [] = refl
operations_plain types slots (o ∷ os) = rw (operation_plain types slots o, operations_plain types slots os) refl

interfaces_plain : (types : List Shape) (is : List Interface)
    → list_all (is_sound_interface types) is ≡ list_all (is_sound_plain_interface types) (map plain_interface is)
interfaces_plain types [] = refl
interfaces_plain types (i ∷ is) = rw (operations_plain types i.slots i.ops, interfaces_plain types is) refl

pub types_plain : (ts : List (List ℕ × Ty)) → shapes ts ≡ map (λ (t : List ℕ × Shape). t.1) (map (λ (t : List ℕ × Ty). (t.0, seen t.1)) ts)
types_plain [] = refl
types_plain (t ∷ ts) = ap (λ z. seen t.1 ∷ z) (types_plain ts)

pub sound_plain : (u : Parts) → is_sound u ≡ is_sound_plain (plain u)
sound_plain u =
    interfaces_step
    ∙ ap (λ z.
    are_sound_types z 0 z && list_all (is_sound_plain_interface z) (map plain_interface u.interfaces)) (types_plain u.types)
  where
    interfaces_step : is_sound u
        ≡ (are_sound_types (shapes u.types) 0 (shapes u.types)
        && list_all (is_sound_plain_interface (shapes u.types)) (map plain_interface u.interfaces))
    interfaces_step = ap (λ z. are_sound_types (shapes u.types) 0 (shapes u.types) && z) (interfaces_plain (shapes u.types) u.interfaces)

-- a unit's types, and then its interfaces
pub sound_then : (u : Parts) (ts : List (List ℕ × Ty)) (is : List Interface) (a r : Bool) → ts ≡ u.types → is ≡ u.interfaces
    → a ≡ are_sound_types (shapes ts) 0 (shapes ts) → a ≡ true → r ≡ list_all (is_sound_interface (shapes ts)) is
    → r ≡ is_sound_plain (plain u)
sound_then u ts is a r t i a_is all r_is =
    let types : are_sound_types (shapes u.types) 0 (shapes u.types)
    ≡ true = ap (λ z. are_sound_types (shapes z) 0 (shapes z)) (sym t) ∙ sym a_is ∙ all in
    r_is ∙ ap (λ z. list_all (is_sound_interface (shapes z)) is) t ∙ ap (list_all (is_sound_interface (shapes u.types))) i
    ∙ sym (ap (λ z. z && list_all (is_sound_interface (shapes u.types)) u.interfaces) types) ∙ sound_plain u

pub sound_else : (u : Parts) (ts : List (List ℕ × Ty)) (a : Bool) → ts ≡ u.types → a ≡ are_sound_types (shapes ts) 0 (shapes ts) → a ≡ false
    → a ≡ is_sound_plain (plain u)
sound_else u ts a t a_is none =
    let types : are_sound_types (shapes u.types) 0 (shapes u.types)
    ≡ false = ap (λ z. are_sound_types (shapes z) 0 (shapes z)) (sym t) ∙ sym a_is ∙ none in
    none ∙ sym (ap (λ z. z && list_all (is_sound_interface (shapes u.types)) u.interfaces) types) ∙ sound_plain u
