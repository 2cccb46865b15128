-- What reading gives is exactly what is spelled, or the first fault.
use Rattle.std.proofs.Common.{◌≡◌, ◌↔◌, ℕ, ◌+◌, ◌-◌, ◌≤◌, List, ◌++◌, length, take, drop, ap, ◌∙◌, arith, length-append}
use Rattle.std.proofs.lemmas.List.{take_at, take-append-drop, length-take}
use Rattle.mint.specs.Types.{Ty}
use Rattle.mint.specs.Values.{Val}
use Rattle.wire_def.specs.declared.encoding.Encoding.{Encoding}
use Rattle.wire_def.specs.declared.fault.FaultKind.{FaultKind}
use Rattle.wire_def.specs.Grammar.{got, stop, AreOctets}
use Rattle.mint.specs.Sound.{IsSound}
use Rattle.wire_def.specs.Spells.{Spells}
use Rattle.wire_def.specs.Stops.{Stops}
use Rattle.wire_def.specs.Reading.{read}
use Rattle.wire_def.specs.Laws.{BeginsWith, ReadingIsGrammar, SpelledIsTyped, BodiesAreLight}
use Rattle.wire_def.proofs.Grammars.{octets_before}

module _ (e : Encoding) (grammar : ReadingIsGrammar e) (t : Ty) (p : ℕ) (o : List ℕ) where
  -- the first octets are read as what they spell
  reads : (v : Val) (used : ℕ) → BeginsWith e t p o v used → read e t p o ≡ got v (p + used) (drop used o)
  reads v used h =
      let long : length (take used o) ≡ used = omega (arith, length-take used o, h.there) in
      let whole : take used o ++ drop used o ≡ o = take-append-drop used o in
      let there = (grammar t).reads p (take used o) (drop used o) v h.spelled.octets in
      rw (whole, long) at there

  -- where a value was read there is no fault
  pub value_no_stop : (w : Val) (q : ℕ) (rest : List ℕ) → read e t p o ≡ got w q rest → (k : FaultKind) (at : ℕ) → ⊥ ↔ Stops e t p o k at
  value_no_stop w q rest is k at = (λ h. absurd h, no) where
    no : Stops e t p o k at → ⊥
    no h = let f = (grammar t).stops p o k at h in cc

  -- where reading stopped nothing is spelled
  pub stop_no_value : (k : FaultKind) (at : ℕ) → read e t p o ≡ stop k at → (v : Val) (used : ℕ) → ⊥ ↔ BeginsWith e t p o v used
  stop_no_value k at is v used = (λ h. absurd h, no) where
    no : BeginsWith e t p o v used → ⊥
    no h = let f = reads v used h in cc

  -- where reading stopped there is this fault alone
  pub stop_is_stop : AreOctets o → (k : FaultKind) (at : ℕ) → read e t p o ≡ stop k at → (l : FaultKind) (place : ℕ)
      → ((k ≡ l) × (at ≡ place)) ↔ Stops e t p o l place
  stop_is_stop oct k at is l place = (to, from) where
    to : (k ≡ l) × (at ≡ place) → Stops e t p o l place
    to (same, there) = (grammar t).faulty p o l place oct (rw (← same, ← there) is)

    from : Stops e t p o l place → (k ≡ l) × (at ≡ place)
    from h = let f = (grammar t).stops p o l place h in (cc, cc)

  -- where a value was read it is spelled, and no other is
  pub value_is_value : SpelledIsTyped e → BodiesAreLight e → IsSound t → AreOctets o → p + length o ≤ 4194304
      → (w : Val) (q : ℕ) (rest : List ℕ) → read e t p o ≡ got w q rest → (v : Val) (used : ℕ)
      → ((w ≡ v) × (q - p ≡ used)) ↔ BeginsWith e t p o v used
  value_is_value typed light sound oct short w q rest is v used = (to, from) where
    here : (a : List ℕ) × (o ≡ a ++ rest) × (q ≡ p + length a) × Spells e t p a w
    here = (grammar t).spelled p o w q rest oct is

    to : (w ≡ v) × (q - p ≡ used) → BeginsWith e t p o v used
    to (same, many) =
        let a : List ℕ = here.0 in
        let long : length a ≡ used = omega (arith, here.2, many) in
        let first : take used o ≡ a = ap (take used) here.1 ∙ take_at a rest used long in
        let within : length a ≤ 4194304 = omega (arith, ap length here.1, length-append a rest) in
        let weighs = light t sound p a w within here.3 in
        record {
          there = omega (arith, ap length here.1, length-append a rest, long);
          spelled = rw (first, ← same) (record {
            typed = record { is_of = typed t p a w (octets_before a rest (rw here.1 at oct)) here.3; light = omega (arith, weighs) };
            octets = here.3;
          });
        }

    from : BeginsWith e t p o v used → (w ≡ v) × (q - p ≡ used)
    from h =
        let f = reads v used h in
        let past : q ≡ p + used = cc in
        (cc, omega (arith, past))
