-- What is known of positions: after octets, behind padding, and of two phases, by their remainders.
use Rattle.std.proofs.Common.{◌≡◌, ℕ, ◌+◌, ◌-◌, ◌*◌, ◌%◌, ◌<◌, Bool, true, false, nat_eq, if◌then◌else◌, ◌&&◌, refl, sym, ap, ◌∙◌, subst, arith}
use Rattle.std.proofs.Math.Nat.{mod-mod_of_dvd, mod-add-mod}
use Rattle.std.proofs.lemmas.Bool.{eqb-true, and_parts}
use Rattle.std.proofs.lemmas.Nat.Gcd.{dvd_of_mod-eq-zero}
use Rattle.wire_def.specs.Scalars.{gap}
use Rattle.cast_stub.specs.Steps.{is_width}
use Rattle.chunker.specs.declared.phase.Phase.{Phase}
use Rattle.chunker.specs.Left.{by_fours}
use Rattle.chunker.specs.Phases.{IsPhase, AtPhase, unknown, modulo, shift, is_known, aligned, agree, meet}
use Rattle.cast_stub.proofs.Widths.{Wide, one, two, four, eight, wide_is, is_wide}

rest_below : (m n : ℕ) → Wide m → n % m < m
rest_below _ n one = omega arith
rest_below _ n two = omega arith
rest_below _ n four = omega arith
rest_below _ n eight = omega arith

-- ---- remainders

pub modulo_phase : (m n : ℕ) → Wide m → IsPhase (modulo m n)
modulo_phase m n w = record { multiple = is_wide m w; rest = rest_below m n w }

pub shift_phase : (ph : Phase) (k : ℕ) → IsPhase ph → IsPhase (shift ph k)
shift_phase ph k h = modulo_phase ph.m (ph.r + k) (wide_is ph.m h.multiple)

pub anywhere : (p : ℕ) → AtPhase unknown p
anywhere p = omega arith

-- so many octets further on
pub at_shift : (ph : Phase) (p k : ℕ) → AtPhase ph p → AtPhase (shift ph k) (p + k)
at_shift ph p k at = sym (mod-add-mod p ph.m k) ∙ ap (λ (x : ℕ). (x + k) % ph.m) at

pub same_rest : (m a r p : ℕ) → m % a ≡ 0 → p % m ≡ r → p % a ≡ r % a
same_rest m a r p known at = sym (mod-mod_of_dvd a p (dvd_of_mod-eq-zero a known)) ∙ ap (λ (x : ℕ). x % a) at

-- padding that is known
pub known_gap : (ph : Phase) (a p : ℕ) → is_known ph a ≡ true → AtPhase ph p → gap p a ≡ gap ph.r a
known_gap ph a p known at = ap (λ (x : ℕ). (a - x) % a) (same_rest ph.m a ph.r p (eqb-true (ph.m % a) 0 known) at)

-- behind padding
pub behind_gap : (a p : ℕ) → Wide a → AtPhase (modulo a 0) (p + gap p a)
behind_gap _ p one = omega arith
behind_gap _ p two = omega arith
behind_gap _ p four = omega arith
behind_gap _ p eight = omega arith

aligned_at : (ph : Phase) (a p : ℕ) (k : Bool) → is_known ph a ≡ k → Wide a → AtPhase ph p
    → AtPhase (if k then shift ph (gap ph.r a) else modulo a 0) (p + gap p a)
aligned_at ph a p true e w at =
    subst (λ (g : ℕ). AtPhase (shift ph (gap ph.r a)) (p + g)) (sym (known_gap ph a p e at)) (at_shift ph p (gap ph.r a) at)
aligned_at ph a p false e w at = behind_gap a p w

aligned_if : (ph : Phase) (a p : ℕ) (b : Bool) → is_width a ≡ b → b ≡ true → AtPhase ph p
    → AtPhase (if b then (if is_known ph a then shift ph (gap ph.r a) else modulo a 0) else ph) (p + gap p a)
aligned_if ph a p true e t at = aligned_at ph a p (is_known ph a) refl (wide_is a e) at
aligned_if ph a p false e t at = absurd cc

pub at_aligned : (ph : Phase) (a p : ℕ) → is_width a ≡ true → AtPhase ph p → AtPhase (aligned ph a) (p + gap p a)
at_aligned ph a p e at = aligned_if ph a p (is_width a) refl e at

-- ---- two phases

-- what they agree on
pub record Agreed (a b : Phase) (m : ℕ) : Type 0 where
  pub first : a.m % m ≡ 0
  pub second : b.m % m ≡ 0
  pub same : a.r % m ≡ b.r % m

pub agreed : (a b : Phase) (m : ℕ) → agree a b m ≡ true → Agreed a b m
agreed a b m e =
    let x = and_parts (nat_eq (a.m % m) 0 && nat_eq (b.m % m) 0) (nat_eq (a.r % m) (b.r % m)) e in
    let y = and_parts (nat_eq (a.m % m) 0) (nat_eq (b.m % m) 0) x.0 in
    record {
      first = eqb-true (a.m % m) 0 y.0;
      second = eqb-true (b.m % m) 0 y.1;
      same = eqb-true (a.r % m) (b.r % m) x.1;
    }

by_three : (p r : ℕ) (x y z : Bool) → (x ≡ true → p % 8 ≡ r % 8) → (y ≡ true → p % 4 ≡ r % 4) → (z ≡ true → p % 2 ≡ r % 2)
    → AtPhase (if x then modulo 8 r else if y then modulo 4 r else if z then modulo 2 r else unknown) p
by_three p r true y z f g h = f refl
by_three p r false true z f g h = g refl
by_three p r false false true f g h = h refl
by_three p r false false false f g h = anywhere p

-- a place whose remainders are those of both
pub at_meet : (a b : Phase) (p : ℕ) → ((m : ℕ) → Agreed a b m → p % m ≡ a.r % m) → AtPhase (meet a b) p
at_meet a b p f = by_three p a.r (agree a b 8) (agree a b 4) (agree a b 2) (λ e. f 8 (agreed a b 8 e)) (λ e. f 4 (agreed a b 4 e)) (λ e.
    f 2 (agreed a b 2 e))

pub meet_first : (a b : Phase) (p : ℕ) → AtPhase a p → AtPhase (meet a b) p
meet_first a b p at = at_meet a b p (λ m g. same_rest a.m m a.r p g.first at)

pub meet_second : (a b : Phase) (p : ℕ) → AtPhase b p → AtPhase (meet a b) p
meet_second a b p at = at_meet a b p (λ m g. same_rest b.m m b.r p g.second at ∙ sym g.same)

phase_three : (r : ℕ) (x y z : Bool)
    → IsPhase (if x then modulo 8 r else if y then modulo 4 r else if z then modulo 2 r else unknown)
phase_three r true y z = modulo_phase 8 r eight
phase_three r false true z = modulo_phase 4 r four
phase_three r false false true = modulo_phase 2 r two
phase_three r false false false = modulo_phase 1 0 one

pub meet_phase : (a b : Phase) → IsPhase (meet a b)
meet_phase a b = phase_three a.r (agree a b 8) (agree a b 4) (agree a b 2)

-- ---- numbers of four octets

fours_rest : (r m : ℕ) → m % 8 ≡ 0 → r % 8 ≡ (r + 4) % m % 8 → ⊥
fours_rest r m d e =
    let inner : (r + 4) % m % 8 ≡ (r + 4) % 8 = mod-mod_of_dvd 8 (r + 4) (dvd_of_mod-eq-zero 8 d) in
    let whole : r % 8 ≡ (r + 4) % 8 = e ∙ inner in
    absurd (omega (arith, whole))

pub at_fours : (ph : Phase) (p k : ℕ) → AtPhase ph p → AtPhase (by_fours ph) (p + k * 4)
at_fours ph p k at =
    by_three (p + k * 4) ph.r (agree ph (shift ph 4) 8) (agree ph (shift ph 4) 4) (agree ph (shift ph 4) 2)
    (λ e.
    let g = agreed ph (shift ph 4) 8 e in
    absurd (fours_rest ph.r ph.m g.first g.same))
    (λ e.
    let g = agreed ph (shift ph 4) 4 e in
    let s : p % 4 ≡ ph.r % 4 = same_rest ph.m 4 ph.r p g.first at in
    omega (arith, s))
    (λ e.
    let g = agreed ph (shift ph 4) 2 e in
    let s : p % 2 ≡ ph.r % 2 = same_rest ph.m 2 ph.r p g.first at in
    omega (arith, s))
