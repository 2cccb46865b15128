-- What is reported of a message is decided by its head, or by its first fault.
use Rattle.std.proofs.Common.{◌≡◌, ◌<◌, ℕ, suc, List, [], ◌∷◌, Ok, Err, get_or, refl, sym, ap, ◌∙◌}
use Rattle.std.specs.Prelude.{◌↔◌, Result}
use Rattle.wire_def.specs.declared.fault.HeadErr.{HeadErr}
use Rattle.wire_def.specs.Grammar.{Reading, got, stop, AreOctets}
use Rattle.head_kit.specs.Heads.{Format, IsRead, StopsWith, Begins}
use Rattle.head_kit.specs.Readers.{reported, seen_by, Tells}
use Rattle.head_kit.proofs.Lawful.{begun, begins}

pub all_octets : (o : List ℕ) → ((i : ℕ) → get_or o i 0 < 256) → AreOctets o
all_octets [] h = tt
all_octets (b ∷ o) h = (h 0, all_octets o (λ i. h (suc i)))

module _ {A B : Type 0} (view : A → ℕ → B) where
  reported_ok : (r : Reading HeadErr A) (y : B) → reported view r ≡ Ok y
      → (h : A) × (used : ℕ) × (rest : List ℕ) × (r ≡ got h used rest) × (view h used ≡ y)
  reported_ok (got h used rest) y e = (h, used, rest, refl, cc)
  reported_ok (stop k at) y e = absurd cc

  reported_err : (r : Reading HeadErr A) (k : HeadErr) → reported view r ≡ Err k → (at : ℕ) × (r ≡ stop k at)
  reported_err (got h used rest) k e = absurd cc
  reported_err (stop k' at) k e = (at, cc)

module _ {A B : Type 0} (f : Format A) (is_read : IsRead f) (view : A → ℕ → B) (o : List ℕ) (oct : AreOctets o) where
  pub reported_head : (y : B) → (reported view (f.read 0 o) ≡ Ok y) ↔ Begins f view o y
  reported_head y = (to, from) where
    to : reported view (f.read 0 o) ≡ Ok y → Begins f view o y
    to e =
        let t = reported_ok view (f.read 0 o) y e in
        (t.0, t.1, begins f is_read o oct t.0 t.1 t.2 t.3, t.4)

    from : Begins f view o y → reported view (f.read 0 o) ≡ Ok y
    from (h, used, b, is) = rw (begun f is_read o h used b, is) refl

  pub reported_fault : (e : HeadErr) → (reported view (f.read 0 o) ≡ Err e) ↔ StopsWith f o e
  reported_fault e = (to, from) where
    to : reported view (f.read 0 o) ≡ Err e → StopsWith f o e
    to is =
        let t = reported_err view (f.read 0 o) e is in
        (t.0, is_read.faulty 0 o e t.0 oct t.1)

    from : StopsWith f o e → reported view (f.read 0 o) ≡ Err e
    from (at, s) = rw (is_read.stops 0 o e at s) refl

-- a result that is seen to be an answer, or a fault
module _ {X B : Type 0} (seen : X → B) where
  tells_seen : (d : Result X HeadErr) (y : B) → Tells seen d y ↔ (seen_by seen d ≡ Ok y)
  tells_seen (Ok x) y = ((λ h. ap (λ (z : B). Ok z) h), λ e. cc)
  tells_seen (Err e) y = ((λ h. absurd h), λ h. absurd cc)

  fault_seen : (d : Result X HeadErr) (e : HeadErr) → (d ≡ Err e) ↔ (seen_by seen d ≡ Err e)
  fault_seen (Ok x) e = ((λ h. absurd cc), λ h. absurd cc)
  fault_seen (Err k) e = ((λ h. cc), λ h. let same : k ≡ e = cc in ap (λ (z : HeadErr). Err z) same)

-- the same of an answer that borrows from the message, by what is seen of it
module _ {A B X : Type 0} (f : Format A) (is_read : IsRead f) (view : A → ℕ → B) (seen : X → B) (o : List ℕ) (oct : AreOctets o)
    (d : Result X HeadErr) (same : seen_by seen d ≡ reported view (f.read 0 o)) where
  pub told_head : (y : B) → Tells seen d y ↔ Begins f view o y
  told_head y =
      let is = reported_head f is_read view o oct y in
      ((λ h. is.0 (sym same ∙ (tells_seen seen d y).0 h)), λ h. (tells_seen seen d y).1 (same ∙ is.1 h))

  pub told_fault : (e : HeadErr) → (d ≡ Err e) ↔ StopsWith f o e
  told_fault e =
      let is = reported_fault f is_read view o oct e in
      ((λ h. is.0 (sym same ∙ (fault_seen seen d e).0 h)), λ h. (fault_seen seen d e).1 (same ∙ is.1 h))
