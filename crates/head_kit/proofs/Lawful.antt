-- The laws of heads, from reading being one function.
use Rattle.std.proofs.Common.{◌≡◌, ◌⊎◌, inl, inr, ℕ, List, ◌++◌, length, take, drop, refl, ap, ◌∙◌, arith, length-append, zero-add}
use Rattle.std.proofs.lemmas.List.{take_at, take-append-drop, length-take}
use Rattle.wire_def.specs.declared.fault.HeadErr.{HeadErr}
use Rattle.wire_def.specs.Grammar.{Reading, got, stop, AreOctets}
use Rattle.head_kit.specs.Heads.{Format, IsRead, BeginsWith, StopsWith, IsDecided}

-- at most one head or one fault, and not both
pub record IsSingle {A : Type 0} (f : Format A) (o : List ℕ) : Type 0 where
  pub not_both : (h : A) (used : ℕ) (e : HeadErr) → BeginsWith f o h used → StopsWith f o e → ⊥
  pub one_head : (h j : A) (used m : ℕ) → BeginsWith f o h used → BeginsWith f o j m → (h ≡ j) × (used ≡ m)
  pub one_fault : (d e : HeadErr) → StopsWith f o d → StopsWith f o e → d ≡ e

module _ {A : Type 0} (f : Format A) (is_read : IsRead f) (o : List ℕ) where
  -- a head that is a prefix is read
  pub begun : (h : A) (used : ℕ) → BeginsWith f o h used → f.read 0 o ≡ got h used (drop used o)
  begun h used (there, spells) =
      let long : length (take used o) ≡ used = omega (arith, length-take used o, there) in
      let whole : take used o ++ drop used o ≡ o = take-append-drop used o in
      let is = is_read.reads 0 (take used o) (drop used o) h spells in
      rw (whole, long, zero-add) at is

  -- what is read is a prefix
  pub begins : AreOctets o → (h : A) (used : ℕ) (rest : List ℕ) → f.read 0 o ≡ got h used rest → BeginsWith f o h used
  begins oct h used rest is =
      let s = is_read.spelled 0 o h used rest oct is in
      let long : length s.0 ≡ used = omega (arith, s.2) in
      let first : take used o ≡ s.0 = ap (take used) s.1 ∙ take_at s.0 rest used long in
      (omega (arith, ap length s.1, length-append s.0 rest, long), rw first s.3)

  either : AreOctets o → (r : Reading HeadErr A) → f.read 0 o ≡ r
      → ((h : A) × (used : ℕ) × BeginsWith f o h used) ⊎ ((e : HeadErr) × StopsWith f o e)
  either oct (got h used rest) is = inl (h, used, begins oct h used rest is)
  either oct (stop e at) is = inr (e, (at, is_read.faulty 0 o e at oct is))

  not_both : (h : A) (used : ℕ) (e : HeadErr) → BeginsWith f o h used → StopsWith f o e → ⊥
  not_both h used e b (at, s) =
      let first = begun h used b in
      let second = is_read.stops 0 o e at s in
      cc

  one_head : (h j : A) (used m : ℕ) → BeginsWith f o h used → BeginsWith f o j m → (h ≡ j) × (used ≡ m)
  one_head h j used m b c =
      let first = begun h used b in
      let second = begun j m c in
      (cc, cc)

  one_fault : (d e : HeadErr) → StopsWith f o d → StopsWith f o e → d ≡ e
  one_fault d e (at, s) (at', t) =
      let first = is_read.stops 0 o d at s in
      let second = is_read.stops 0 o e at' t in
      cc

  pub single : IsSingle f o
  single = record { not_both = not_both; one_head = one_head; one_fault = one_fault }

  pub decided : AreOctets o → IsDecided f o
  decided oct = record { either = either oct (f.read 0 o) refl; not_both = not_both; one_head = one_head; one_fault = one_fault }
