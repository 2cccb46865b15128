-- Octets that are passed up to a multiple.
use Rattle.std.proofs.Common.{◌≡◌, ℕ, zero, suc, ◌+◌, ◌-◌, ◌<◌, ◌≤◌, List, ◌∷◌, length, take, drop, get_or, max, refl, sym, ap, ◌∙◌, Bool, true, false, if◌then◌else◌, add-one, arith}
use Rattle.std.specs.Prelude.{nat_lt}
use Rattle.std.proofs.Math.Seq.{drop-cons}
use Rattle.std.proofs.lemmas.List.{drop_all}
use Rattle.std.proofs.lemmas.Bool.{le-leb}
use Rattle.kit_base.specs.Causes.{raised}
use Rattle.wire_def.specs.Scalars.{gap}
use Rattle.cast_stub.specs.Steps.{is_width}
use Rattle.cast_stub.specs.Draft.{Draft}
use Rattle.cast_stub.specs.Into.{needed, passed, skipped, all_zero}
use Rattle.cast_stub.specs.Runs.{Place, gives, refuses, strays, then_run}

zero_or_not : (b : ℕ) (o : List ℕ) → b ≡ 0 → all_zero (b ∷ o) ≡ all_zero o
zero_or_not zero o e = refl
zero_or_not (suc b) o e = absurd (omega (arith, e))

not_zero : (b : ℕ) (o : List ℕ) → (b ≡ 0 → ⊥) → all_zero (b ∷ o) ≡ false
not_zero zero o e = absurd (e refl)
not_zero (suc b) o e = refl

opened : (o : List ℕ) (i : ℕ) → i < length o → drop i o ≡ get_or o i 0 ∷ drop (i + 1) o
opened o i h = rw (add-one, drop-cons o i 0) refl

pub zeros_on : (o : List ℕ) (i : ℕ) → i < length o → get_or o i 0 ≡ 0 → all_zero (drop i o) ≡ all_zero (drop (i + 1) o)
zeros_on o i lt e = ap all_zero (opened o i lt) ∙ zero_or_not (get_or o i 0) (drop (i + 1) o) e

pub zeros_off : (o : List ℕ) (i : ℕ) → i < length o → (get_or o i 0 ≡ 0 → ⊥) → all_zero (drop i o) ≡ false
zeros_off o i lt e = ap all_zero (opened o i lt) ∙ not_zero (get_or o i 0) (drop (i + 1) o) e

pub zeros_end : (o : List ℕ) (i : ℕ) → length o ≤ i → all_zero (drop i o) ≡ true
zeros_end o i past = ap all_zero (drop_all i o past)

pub ruleset zeros = (zeros_on, zeros_off, zeros_end)

-- ---- the runs

after : ℕ → Place → Place
after k s = record { pos = s.pos + k; left = drop k s.left; near = max k s.near - k; tests = raised s.tests 1 }

module _ (test : List ℕ → Bool) (a : ℕ) (d : Draft) (s : Place) where
  pub no_multiple : is_width a ≡ false → skipped test a d s ≡ refuses
  no_multiple e = ap (λ (b : Bool). if b
      then then_run (needed (gap s.pos a) d s) (λ d t. if test (take (gap s.pos a) t.left) then passed (gap s.pos a) d t else refuses)
      else refuses) e

  whole : is_width a ≡ true
      → skipped test a d s ≡ then_run (needed (gap s.pos a) d s)
      (λ d t. if test (take (gap s.pos a) t.left) then passed (gap s.pos a) d t else refuses)
  whole e = ap (λ (b : Bool). if b
      then then_run (needed (gap s.pos a) d s) (λ d t. if test (take (gap s.pos a) t.left) then passed (gap s.pos a) d t else refuses)
      else refuses) e

  tested : Place
  tested = record { pos = s.pos; left = s.left; near = max (gap s.pos a) s.near; tests = raised s.tests 1 }

  pub too_short : is_width a ≡ true → nat_lt (length s.left) (gap s.pos a) ≡ true → skipped test a d s ≡ refuses
  unfolding tested
  too_short e f = whole e ∙ ap (λ (b : Bool). then_run (if b then refuses else gives d tested)
      (λ d t. if test (take (gap s.pos a) t.left) then passed (gap s.pos a) d t else refuses)) f

  long : is_width a ≡ true → nat_lt (length s.left) (gap s.pos a) ≡ false
      → skipped test a d s ≡ (if test (take (gap s.pos a) s.left) then passed (gap s.pos a) d tested else refuses)
  unfolding tested
  long e f = whole e ∙ ap (λ (b : Bool). then_run (if b then refuses else gives d tested)
      (λ d t. if test (take (gap s.pos a) t.left) then passed (gap s.pos a) d t else refuses)) f

  pub not_these : is_width a ≡ true → nat_lt (length s.left) (gap s.pos a) ≡ false → test (take (gap s.pos a) s.left) ≡ false
      → skipped test a d s ≡ refuses
  not_these e f g = long e f ∙ ap (λ (b : Bool). if b then passed (gap s.pos a) d tested else refuses) g

  pub all_these : (t : Place) → is_width a ≡ true → nat_lt (length s.left) (gap s.pos a) ≡ false
      → test (take (gap s.pos a) s.left) ≡ true → t ≡ record {
        pos = s.pos + gap s.pos a;
        left = drop (gap s.pos a) s.left;
        near = max (gap s.pos a) s.near - gap s.pos a;
        tests = raised s.tests 1;
      }
      → skipped test a d s ≡ gives d t
  unfolding tested
  all_these t e f g is =
      long e f ∙ ap (λ (b : Bool). if b then passed (gap s.pos a) d tested else refuses) g
      ∙ ap (λ (b : Bool). if b
      then gives d
      (record {
        pos = s.pos + gap s.pos a;
        left = drop (gap s.pos a) s.left;
        near = max (gap s.pos a) s.near - gap s.pos a;
        tests = raised s.tests 1;
      })
      else strays) (le-leb (gap s.pos a) (max (gap s.pos a) s.near) (omega arith))
      ∙ ap (λ (u : Place). gives d u) (sym is)
