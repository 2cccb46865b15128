-- Ways of residues from a position to another: over octets, over zeros, and within a closed set.
use Rattle.std.proofs.Common.{◌≡◌, ◌⊎◌, inl, inr, ℕ, zero, suc, ◌+◌, ◌-◌, ◌%◌, ◌<◌, Bool, true, false, ◌&&◌, ◌||◌, not, nat_eq, refl, sym, ap, ◌∙◌, subst, arith, eq-eqb, eq-or-lt_of_le}
use Rattle.wire_def.specs.Scalars.{gap}
use Rattle.cast_stub.specs.Steps.{is_width}
use Rattle.stub_flat.specs.Residues.{Residues, moved, comes, aligned, closed}
use Rattle.stub_flat.proofs.Sets.{closed_has, closed_within, gap_turns}
use Rattle.cast_stub.proofs.Widths.{wide_is}
use Rattle.std.proofs.lemmas.Bool.{or_right, or_left}

-- ---- tests

pub implied : (x y : Bool) → (not x || y) ≡ true → x ≡ true → y ≡ true
implied true true e h = refl
implied true false e h = absurd cc
implied false y e h = absurd cc

-- a fact of the numbers below another
pub below_next : (P : ℕ → Type 0) (k r : ℕ) → r < suc k → P k → (r < k → P r) → P r
below_next P k r lt last first = by (eq-or-lt_of_le (omega (arith, lt))) where
  by : (r ≡ k) ⊎ (r < k) → P r
  by (inl e) = subst P (sym e) last
  by (inr l) = first l

-- ---- where octets and zeros lead

pub residue : (p : ℕ) → p % 8 < 8
residue p = omega arith

pub moved_back : (n p : ℕ) → ((p + n) % 8 + 8 - n % 8) % 8 ≡ p % 8
moved_back n p = omega arith

-- zeros up to a width go by the residue
pub same_gap : (a p : ℕ) → is_width a ≡ true → gap p a ≡ gap (p % 8) a
same_gap a p e = sym (gap_turns a (wide_is a e) p)

plus_same : (p g h : ℕ) → g ≡ h → (p + g) % 8 ≡ (p % 8 + h) % 8
plus_same p g h e = omega (arith, e)

pub same_end : (a p : ℕ) → is_width a ≡ true → (p + gap p a) % 8 ≡ (p % 8 + gap (p % 8) a) % 8
same_end a p e = plus_same p (gap p a) (gap (p % 8) a) (same_gap a p e)

-- ---- from a position to another

-- a way of residues leads from a position to another
abbrev pub Goes : (Residues → Residues) → ℕ → ℕ → Type 0
Goes f p q = (A : Residues) → A (p % 8) ≡ true → f A (q % 8) ≡ true

pub goes_moved : (n p : ℕ) → Goes (moved n) p (p + n)
goes_moved n p A h = ap A (moved_back n p) ∙ h

comes_at : (k a : ℕ) (A : Residues) (r : ℕ) → r < k → A r ≡ true → comes k a A ((r + gap r a) % 8) ≡ true
comes_at zero a A r lt h = absurd (omega (arith, lt))
comes_at (suc k) a A r lt h =
    below_next (λ (j : ℕ). A j ≡ true → comes (suc k) a A ((j + gap j a) % 8) ≡ true) k r lt
    (λ (g : A k ≡ true).
    or_left (A k && nat_eq ((k + gap k a) % 8) ((k + gap k a) % 8)) (comes k a A ((k + gap k a) % 8))
    (together (A k) (nat_eq ((k + gap k a) % 8) ((k + gap k a) % 8)) g (eq-eqb ((k + gap k a) % 8) ((k + gap k a) % 8) refl)))
    (λ (l : r < k) (g : A r ≡ true).
    or_right (A k && nat_eq ((k + gap k a) % 8) ((r + gap r a) % 8)) (comes k a A ((r + gap r a) % 8)) (comes_at k a A r l g))
    h
  where
    together : (x y : Bool) → x ≡ true → y ≡ true → (x && y) ≡ true
    together true true e f = refl
    together true false e f = absurd cc
    together false y e f = absurd cc

pub goes_aligned : (a p : ℕ) → is_width a ≡ true → Goes (aligned a) p (p + gap p a)
goes_aligned a p e A h =
    ap (λ (r : ℕ). comes 8 a A r) (same_end a p e) ∙ comes_at 8 a A (p % 8) (residue p) h

-- a set is within what it is closed to
pub begins : (f : Residues → Residues) (A : Residues) (p : ℕ) → A (p % 8) ≡ true → closed f A (p % 8) ≡ true
begins f A p h = closed_has f A (p % 8) (residue p) h

-- a turn within a closed set
pub goes_round : (f : Residues → Residues) (A : Residues) (p q : ℕ) → Goes f p q → closed f A (p % 8) ≡ true → closed f A (q % 8) ≡ true
goes_round f A p q go h = closed_within f A (q % 8) (residue q) (go (closed f A) h)
