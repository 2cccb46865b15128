-- Types that stay sound when others are put after them: numbers, texts, names, rows of these, by induction on the type.
use Rattle.std.proofs.Common.{◌≡◌, ℕ, ◌≤◌, Bool, true, false, ◌&&◌, nat_lt, List, [], ◌∷◌, ◌++◌, refl, arith}
use Rattle.std.proofs.lemmas.Bool.{and_parts, and_from, lt-ltb, ltb-true}
use Rattle.aoi.specs.Shapes.{Shape, void, number, enumeration, text, array, structure, choice, optional, named, Members, no_more, member, members_of}
use Rattle.aoi.specs.Sound.{is_sound_type, are_sound, is_open, is_some_count}

-- a number, a text, the name of a type below a limit, or a row of these
abbrev pub is_plain : ℕ → Shape → Bool
is_plain limit (number k) = true
is_plain limit (text c) = is_open c
is_plain limit (array s c) = is_some_count c && is_plain limit s
is_plain limit (named k) = nat_lt k limit
is_plain limit _ = false

-- members of such types
abbrev pub are_plain : ℕ → Members → Bool
are_plain limit no_more = true
are_plain limit (member n s ms) = is_plain limit s && are_plain limit ms

pub plain_sound : (types : List Shape) (limit : ℕ) (s : Shape) → is_plain limit s ≡ true → is_sound_type types limit s ≡ true
plain_sound types limit void h = absurd cc
plain_sound types limit (number k) h = refl
plain_sound types limit (enumeration items) h = absurd cc
plain_sound types limit (text c) h = h
plain_sound types limit (array s c) h = let parts = and_parts (is_some_count c) (is_plain limit s) h in and_from _ _ parts.0
    (plain_sound types limit s parts.1)
plain_sound types limit (structure ms) h = absurd cc
plain_sound types limit (choice s arms) h = absurd cc
plain_sound types limit (optional s) h = absurd cc
plain_sound types limit (named k) h = h

pub members_sound : (types : List Shape) (limit : ℕ) (ms : Members) → are_plain limit ms ≡ true → are_sound types limit ms ≡ true
members_sound types limit no_more h = refl
members_sound types limit (member n s ms) h =
    let parts = and_parts (is_plain limit s) (are_plain limit ms) h in and_from _ _ (plain_sound types limit s parts.0)
    (members_sound types limit ms parts.1)

pub plain_grow : (low high : ℕ) (s : Shape) → low ≤ high → is_plain low s ≡ true → is_plain high s ≡ true
plain_grow low high void le h = absurd cc
plain_grow low high (number k) le h = refl
plain_grow low high (enumeration items) le h = absurd cc
plain_grow low high (text c) le h = h
plain_grow low high (array s c) le h = let parts = and_parts (is_some_count c) (is_plain low s) h in and_from _ _ parts.0
    (plain_grow low high s le parts.1)
plain_grow low high (structure ms) le h = absurd cc
plain_grow low high (choice s arms) le h = absurd cc
plain_grow low high (optional s) le h = absurd cc
plain_grow low high (named k) le h = let lt = ltb-true k low h in lt-ltb k high (omega (arith, lt, le))

pub members_grow : (low high : ℕ) (ms : Members) → low ≤ high → are_plain low ms ≡ true → are_plain high ms ≡ true
members_grow low high no_more le h = refl
members_grow low high (member n s ms) le h =
    let parts = and_parts (is_plain low s) (are_plain low ms) h in and_from _ _ (plain_grow low high s le parts.0)
    (members_grow low high ms le parts.1)

pub plain_push : (limit : ℕ) (fields : List (List ℕ × Shape)) (f : List ℕ × Shape) → are_plain limit (members_of fields) ≡ true
    → is_plain limit f.1 ≡ true → are_plain limit (members_of (fields ++ f ∷ [])) ≡ true
plain_push limit [] f a b = and_from _ _ b refl
plain_push limit (g ∷ fields) f a b = let parts = and_parts (is_plain limit g.1) (are_plain limit (members_of fields)) a in and_from _ _
    parts.0 (plain_push limit fields f parts.1 b)
