-- The name of an item, as a string, by induction on the items.
use Rattle.std.proofs.Common.{◌≡◌, Bool, true, false, cond, ℕ, ℤ, List, [], ◌∷◌, None, Some, refl}
use Rattle.std.specs.Ordering.{int_eq}
use Rattle.pres.specs.Tables.{ItemList, text_numbered, text_of}
use Rattle.json_shape.specs.Written.{name_of}

pub text_found : (items : ItemList) (n : ℤ) (t : List ℕ) → Some t ≡ text_numbered items n → t ≡ text_of (name_of items n)
text_found [] n t e = absurd cc
text_found (i ∷ items) n t e = by (int_eq i.1 n) (text_found items n t) e where
  by : (b : Bool) → (Some t ≡ text_numbered items n → t ≡ text_of (name_of items n))
      → Some t ≡ cond b (Some (text_of i.0)) (text_numbered items n)
      → t ≡ text_of (cond b i.0 (name_of items n))
  by true more e = cc
  by false more e = more e

pub text_missed : (items : ItemList) (n : ℤ) → None ≡ text_numbered items n → [] ≡ name_of items n
text_missed [] n e = refl
text_missed (i ∷ items) n e = by (int_eq i.1 n) (text_missed items n) e where
  by : (b : Bool) → (None ≡ text_numbered items n → [] ≡ name_of items n) → None ≡ cond b (Some (text_of i.0)) (text_numbered items n)
      → [] ≡ cond b i.0 (name_of items n)
  by true more e = absurd cc
  by false more e = more e

pub ruleset texted = (text_found, text_missed)
