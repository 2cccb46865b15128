-- The interfaces of a file are not twins in its unit, by induction on the interfaces.
use Rattle.std.proofs.Common.{◌≡◌, ℕ, ◌+◌, ◌<◌, Bool, true, false, not, ◌&&◌, ◌||◌, ◌==◌, List, [], ◌∷◌, ◌++◌, map, refl, sym, subst, ◌∙◌, arith}
use Rattle.std.specs.List.{list_any}
use Rattle.std.specs.Str.{bytes_eq}
use Rattle.std.specs.Bool.{one_answer}
use Rattle.std.proofs.lemmas.Bool.{ne_eqb, or_parts, or_from, and_parts, not-true, and_left}
use Rattle.std.proofs.lemmas.Slice.Eq.{bytes_eq-Decides}
use Rattle.aoi.specs.declared.interfaces.Interface.{Interface}
use Rattle.aoi.specs.Units.{is_twice}
use Rattle.aoi.specs.Plain.{PlainInterface, plain_interface}
use Rattle.aoi.specs.Sound.{are_distinct}
use Rattle.idl_names.proofs.Tables.{any_map}
use Rattle.front_corba.specs.State.{PlainOffering}
use Rattle.front_corba.specs.Interfaces.{full_names}
use Rattle.front_corba.specs.Resolved.{interface, interfaces}

abbrev twins : PlainInterface → PlainInterface → Bool
twins i j = bytes_eq i.name j.name || (i.program == j.program && i.version == j.version)

any_twin : (i : Interface) (is : List Interface) → list_any (λ j. twins j (plain_interface i)) (map plain_interface is) ≡ is_twice i is
any_twin i is = sym (any_map (λ j. twins j (plain_interface i)) plain_interface is)

turned : (a b : List ℕ) → bytes_eq a b ≡ bytes_eq b a
turned a b = one_answer (bytes_eq a b) (bytes_eq b a) (bytes_eq-Decides a b)
    (let d = bytes_eq-Decides b a in (λ t. sym (d.0 t), λ e. d.1 (sym e)))

-- the parts of two lists that are equal
head_same : (x y : PlainInterface) (xs ys : List PlainInterface) → x ∷ xs ≡ y ∷ ys → (x ≡ y) × (xs ≡ ys)
head_same x y xs ys h = (cc h, cc h)

-- two interfaces of different names and places
two_apart : (k place : ℕ) (i j : PlainOffering) → k < place → bytes_eq j.name i.name ≡ false
    → twins (interface k i) (interface place j) ≡ false
two_apart k place i j lt h =
    let other : (536870912 + k == 536870912 + place) ≡ false = ne_eqb (536870912 + k) (536870912 + place) (λ e. omega (arith, lt, e)) in
    or_from _ _ (turned i.name j.name ∙ h) (and_left (536870912 + k == 536870912 + place) true other)

-- an interface and one of those after it
later : (k place : ℕ) (i : PlainOffering) (is : List PlainOffering) (xs ys : List PlainInterface) (y : PlainInterface)
    → xs ++ y ∷ ys ≡ interfaces place is → k < place → list_any (λ m. bytes_eq m i.name) (full_names is) ≡ false
    → twins (interface k i) y ≡ false
later k place i [] [] ys y e lt h = absurd cc
later k place i [] (x ∷ xs) ys y e lt h = absurd cc
later k place i (j ∷ is) [] ys y e lt h =
    let parts = or_parts (bytes_eq j.name i.name) (list_any (λ m. bytes_eq m i.name) (full_names is)) h in
    let same = head_same y (interface place j) ys (interfaces (place + 1) is) e in
    subst (λ z. twins (interface k i) z ≡ false) (sym same.0) (two_apart k place i j lt parts.0)
later k place i (j ∷ is) (x ∷ xs) ys y e lt h =
    let parts = or_parts (bytes_eq j.name i.name) (list_any (λ m. bytes_eq m i.name) (full_names is)) h in
    let same = head_same x (interface place j) (xs ++ y ∷ ys) (interfaces (place + 1) is) e in
    later k (place + 1) i is xs ys y same.1 (omega (arith, lt)) parts.1

-- an interface is not a twin of those before it
pub none_before : (k : ℕ) (is : List PlainOffering) (xs ys : List PlainInterface) (y : PlainInterface)
    → xs ++ y ∷ ys ≡ interfaces k is → are_distinct (full_names is) ≡ true → list_any (λ j. twins j y) xs ≡ false
none_before k is [] ys y e h = refl
none_before k [] (x ∷ xs) ys y e h = absurd cc
none_before k (i ∷ is) (x ∷ xs) ys y e h =
    let parts = and_parts (not (list_any (λ m. bytes_eq m i.name) (full_names is))) (are_distinct (full_names is)) h in
    let same = head_same x (interface k i) (xs ++ y ∷ ys) (interfaces (k + 1) is) e in
    let first = later k (k + 1) i is xs ys y same.1 (omega arith) (not-true _ parts.0) in
    or_from _ _ (subst (λ z. twins z y ≡ false) (sym same.0) first) (none_before (k + 1) is xs ys y same.1 parts.1)

-- the same in the unit
pub none_twice : (is : List PlainOffering) (others : List Interface) (i : Interface) (ys : List PlainInterface)
    → map plain_interface others ++ plain_interface i ∷ ys ≡ interfaces 0 is → are_distinct (full_names is) ≡ true
    → is_twice i others ≡ false
none_twice is others i ys e h = sym (any_twin i others) ∙ none_before 0 is (map plain_interface others) ys (plain_interface i) e h
