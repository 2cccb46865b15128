-- Nothing is sent exactly for types without octets, by mutual induction on types and fields.
use Rattle.std.proofs.Common.{◌≡◌, ℕ, ◌+◌, ◌≤◌, List, [], ◌∷◌, length, Bool, true, false, refl, arith}
use Rattle.mint.specs.Types.{Ty, void_type, group_type, Tys, field}
use Rattle.mint.specs.Values.{Val, group, Vals, val}
use Rattle.wire_def.specs.declared.encoding.Encoding.{Encoding}
use Rattle.wire_def.specs.Send.{followed, send, send_fields}
use Rattle.wire_def.specs.Hollow.{is_hollow, are_hollow, HollowIsEmpty}
use Rattle.wire_def.proofs.Sound.{room}
use Rattle.wire_def.proofs.Room.{filled}
use Rattle.wire_def.proofs.Encodings.{sent_spells}
use Rattle.std.proofs.lemmas.Bool.{and_parts}

-- nothing, and then nothing
nothing_after : (p : ℕ) (o : List ℕ) (more : ℕ → List ℕ) → o ≡ [] → ((q : ℕ) → more q ≡ []) → followed p o more ≡ []
nothing_after p [] more h j = j (p + 0)
nothing_after p (b ∷ bs) more h j = absurd cc

mutual
  unfolding send

  pub empty : (e : Encoding) (t : Ty) → is_hollow t ≡ true → (p : ℕ) (v : Val) → send e t p v ≡ []
  empty e void_type h p v = refl
  empty e (group_type ts) h p (group vs) = fields_empty e ts h p vs
  empty e (group_type ts) h p _ = refl
  empty e _ h p v = absurd cc

  fields_empty : (e : Encoding) (ts : Tys) → are_hollow ts ≡ true → (p : ℕ) (vs : Vals) → send_fields e ts p vs ≡ []
  fields_empty e (field t ts) h p (val v vs) =
      let parts = and_parts (is_hollow t) (are_hollow ts) h in
      nothing_after p (send e t p v) (λ q. send_fields e ts q vs) (empty e t parts.0 p v) (λ q. fields_empty e ts parts.1 q vs)
  fields_empty e _ h p _ = refl

-- what has octets is not nothing
has_some : (o : List ℕ) → 1 ≤ length o → o ≡ [] → ⊥
has_some [] h is = omega (arith, h)
has_some (b ∷ bs) h is = absurd cc

pub hollow_is_empty : (e : Encoding) → HollowIsEmpty e
hollow_is_empty e t sound p v typed = (λ h. empty e t h p v, λ none. decide (is_hollow t) refl none) where
  decide : (b : Bool) → is_hollow t ≡ b → send e t p v ≡ [] → is_hollow t ≡ true
  decide true is none = is
  decide false is none =
      absurd (has_some (send e t p v) (filled e t (room t sound) is p (send e t p v) v (sent_spells e t p v typed).octets) none)
