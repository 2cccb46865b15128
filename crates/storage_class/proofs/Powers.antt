-- Lengths of many parts, by halves, by induction on their number.
use Rattle.std.proofs.Common.{◌≡◌, ℕ, zero, suc, ◌+◌, ◌*◌, ◌/◌, ◌%◌, ◌<◌, ◌≤◌, List, [], ◌∷◌, Bool, true, false, cond, nat_le, true≢false, refl, sym, ap, ◌∙◌, arith, zero-add, add_assoc}
use Rattle.std.specs.List.{list_all}
use Rattle.std.proofs.lemmas.Bool.{le-leb}
use Rattle.storage_class.specs.declared.span.Span.{Span}
use Rattle.storage_class.specs.declared.span.Span.TheVariants.{Fixed, Bounded, Unbounded}
use Rattle.storage_class.specs.Classing.{from_each, length_at, length_after, run, exactly, after}
use Rattle.storage_class.proofs.Residues.{eighth, run_at, run_turns}
use Rattle.storage_class.proofs.Eights.{reported_at}

pub run_add : (m n : ℕ) (f : List ℕ) (p : ℕ) → run (m + n) f p ≡ run m f p + run n f (p + run m f p)
unfolding run
run_add zero n f p =
    let none : 0 + n ≡ n = omega arith in
    let here : p + 0 ≡ p = omega arith in
    rw (none, here, zero-add) refl
run_add (suc m) n f p =
    let more : suc m + n ≡ suc (m + n) = omega arith in
    let rest = run_add m n f (p + length_at f p) in
    let same : p + length_at f p + run m f (p + length_at f p) ≡ p + (length_at f p + run m f (p + length_at f p)) = omega arith in
    rw (more, rest, same, add_assoc) refl

abbrev fit : List ℕ → Bool
fit f = list_all (λ n. nat_le n 4294967295) f

-- lengths that are all known
fit_all : (f : ℕ → ℕ) → fit (from_each f) ≡ true → (p : ℕ) → f (p % 8) ≤ 4294967295
fit_all f h p =
    let below : p % 8 < 8 = omega arith in
    let there = reported_at (from_each f) (p % 8) h in
    omega (arith, there, eighth f (p % 8) below)

all_fit : (f : ℕ → ℕ) → ((p : ℕ) → f p ≤ 4294967295) → fit (from_each f) ≡ true
all_fit f h = rw (
  le-leb (f 0) _ (h 0),
  le-leb (f 1) _ (h 1),
  le-leb (f 2) _ (h 2),
  le-leb (f 3) _ (h 3),
  le-leb (f 4) _ (h 4),
  le-leb (f 5) _ (h 5),
  le-leb (f 6) _ (h 6),
  le-leb (f 7) _ (h 7),
) refl

-- lengths that are nowhere greater are known where the greater are
fits_less : (f g : ℕ → ℕ) → ((p : ℕ) → f p ≤ g (p % 8)) → fit (from_each g) ≡ true → fit (from_each f) ≡ true
fits_less f g less h = all_fit f (λ p. let one = less p in let two = fit_all g h p in omega (arith, one, two))

picked : (b c : Bool) (x y : List ℕ) → (b ≡ true → c ≡ true) → (c ≡ true → x ≡ y) → (b ≡ false → c ≡ false)
    → cond b (Fixed x) Unbounded ≡ cond c (Fixed y) Unbounded
picked true c x y h same k = rw (h refl) (ap Fixed (same (h refl)))
picked false c x y h same k = rw (k refl) refl

false_of : (b c : Bool) → (c ≡ true → b ≡ true) → b ≡ false → c ≡ false
false_of b true h is = absurd (true≢false (sym (h refl) ∙ is))
false_of b false h is = refl

same_each : (f g : ℕ → ℕ) → ((p : ℕ) → f p ≡ g p) → from_each f ≡ from_each g
same_each f g h = rw (h 0, h 1, h 2, h 3, h 4, h 5, h 6, h 7) refl

-- so many, and one more before them
one_more : (f : List ℕ) (n p : ℕ) → length_after f (from_each (run n f)) p ≡ run (suc n) f p
unfolding run
one_more f n p = ap (λ z. length_at f p + z) (run_at n f (p + length_at f p))

-- twice as many
twice : (f : List ℕ) (m p : ℕ) → length_after (from_each (run m f)) (from_each (run m f)) p ≡ run (m + m) f p
twice f m p =
    let here = run_at m f p in
    let there = run_at m f (p + run m f p) in
    rw (here, there) (sym (run_add m m f p))

run_eighth : (n : ℕ) (f : List ℕ) (p : ℕ) → run n f (p % 8) ≡ run n f p
run_eighth n f p = run_turns n f (p % 8) p (again p) where
  again : (q : ℕ) → q % 8 % 8 ≡ q % 8
  again q = omega arith

pub half_twice : (f : List ℕ) (m n : ℕ) → m + m ≡ n
    → after (exactly (from_each (run m f))) (exactly (from_each (run m f))) ≡ exactly (from_each (run n f))
half_twice f m n is = by (fit (from_each (run m f))) refl where
  less : (p : ℕ) → run m f p ≤ run (m + m) f (p % 8)
  less p = rw run_eighth (rw run_add (omega arith))

  by : (b : Bool) → fit (from_each (run m f)) ≡ b
      → after (cond b (Fixed (from_each (run m f))) Unbounded) (cond b (Fixed (from_each (run m f))) Unbounded)
      ≡ exactly (from_each (run n f))
  by true fits = rw (← is) (ap exactly (same_each (length_after (from_each (run m f)) (from_each (run m f))) (run (m + m) f) (twice f m)))
  by false fits =
      let not_fit : fit (from_each (run (m + m) f)) ≡ false =
      false_of (fit (from_each (run m f))) (fit (from_each (run (m + m) f))) (fits_less (run m f) (run (m + m) f) less) fits in
      rw (← is, not_fit) refl

pub one_and_even : (f : List ℕ) (m n : ℕ) → suc m ≡ n → after (Fixed f) (exactly (from_each (run m f))) ≡ exactly (from_each (run n f))
one_and_even f m n is = by (fit (from_each (run m f))) refl where
  less : (p : ℕ) → run m f p ≤ run (m + 1) f (p % 8)
  less p = rw run_eighth (rw run_add (omega arith))

  by : (b : Bool) → fit (from_each (run m f)) ≡ b
      → after (Fixed f) (cond b (Fixed (from_each (run m f))) Unbounded) ≡ exactly (from_each (run n f))
  by true fits = rw (← is) (ap exactly (same_each (length_after f (from_each (run m f))) (run (suc m) f) (one_more f m)))
  by false fits =
      let plus : m + 1 ≡ suc m = omega arith in
      let not_fit : fit (from_each (run (m + 1) f)) ≡ false =
      false_of (fit (from_each (run m f))) (fit (from_each (run (m + 1) f))) (fits_less (run m f) (run (m + 1) f) less) fits in
      rw (← is, ← plus, not_fit) refl

pub none_at_all : (f : List ℕ) → Fixed (from_each (λ p. 0)) ≡ exactly (from_each (run 0 f))
unfolding run
none_at_all f = refl

pub ruleset powers = (half_twice, one_and_even, none_at_all)
