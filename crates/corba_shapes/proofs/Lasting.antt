-- Exceptions stay sound when types are put after others, by induction on the exceptions.
use Rattle.std.proofs.Common.{◌≡◌, ℕ, ◌≤◌, true, List, [], ◌∷◌, ◌++◌, length, refl}
use Rattle.std.specs.List.{list_all}
use Rattle.std.proofs.lemmas.Bool.{and_from}
use Rattle.aoi.specs.Shapes.{Shape}
use Rattle.aoi.specs.Sound.{are_distinct, names_of}
use Rattle.aoi.specs.Plain.{PlainRaise, is_sound_plain_raise}
use Rattle.idl_names.proofs.Plainness.{are_plain, members_grow, members_sound}

-- ---- exceptions

-- members that have different names
pub record RaiseIs (limit : ℕ) (e : PlainRaise) : Type 0 where
  pub different : are_distinct (names_of e.members) ≡ true
  pub plain : are_plain limit e.members ≡ true

abbrev pub RaisesAre : ℕ → List PlainRaise → Type 0
RaisesAre limit [] = Unit {0}
RaisesAre limit (e ∷ es) = RaiseIs limit e × RaisesAre limit es

pub raises_grow : (low high : ℕ) (es : List PlainRaise) → low ≤ high → RaisesAre low es → RaisesAre high es
raises_grow low high [] le h = tt
raises_grow low high (e ∷ es) le h =
    (record { different = h.0.different; plain = members_grow low high e.members le h.0.plain }, raises_grow low high es le h.1)

pub raises_push : (limit : ℕ) (es : List PlainRaise) (e : PlainRaise) → RaisesAre limit es → RaiseIs limit e
    → RaisesAre limit (es ++ e ∷ [])
raises_push limit [] e h is = (is, tt)
raises_push limit (x ∷ es) e h is = (h.0, raises_push limit es e h.1 is)

pub raise_sound : (types : List Shape) (e : PlainRaise) → RaiseIs (length types) e → is_sound_plain_raise types e ≡ true
raise_sound types e is = and_from _ _ is.different (members_sound types (length types) e.members is.plain)

pub raises_sound : (types : List Shape) (es : List PlainRaise) → RaisesAre (length types) es → list_all (is_sound_plain_raise types) es
    ≡ true
raises_sound types [] h = refl
raises_sound types (e ∷ es) h = and_from _ _ (raise_sound types e h.0) (raises_sound types es h.1)
