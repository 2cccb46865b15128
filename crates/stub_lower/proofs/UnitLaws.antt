-- Units of Mach messages, and so many elements of so many octets.
use Rattle.std.proofs.Common.{◌≡◌, ℕ, zero, suc, ◌+◌, ◌*◌, ◌/◌, ◌%◌, refl, sym, ◌∙◌, arith, zero-mul, true}
use Rattle.std.specs.Prelude.{nat_eq}
use Rattle.std.proofs.lemmas.Bool.{eqb-true}
use Rattle.std.proofs.Math.Nat.{suc-mul}
use Rattle.mint.specs.declared.kind.Kind.TheVariants as kind
use Rattle.mint.specs.Types.{Scalar, number}
use Rattle.wire_def.specs.Lone.{units_of}
use Rattle.wire_def.specs.Described.{is_whole, elements_in}
use Rattle.wire_def.proofs.DescribedGrammar.{whole_of, elements_of}

-- ---- how many elements so many units are

-- a number of one unit, or of two
pub data Units (s : Scalar) : Type 0 where
  single : units_of s ≡ 1 → ((k : ℕ) → is_whole s k ≡ true) → ((k : ℕ) → elements_in s k ≡ k) → Units s
  twice : units_of s ≡ 2 → ((k : ℕ) → is_whole s k ≡ nat_eq (k % 2) 0) → ((k : ℕ) → elements_in s k ≡ k / 2) → Units s

pub units : (s : Scalar) → Units s
units (number kind.I64) = twice refl (λ (k : ℕ). refl) (λ (k : ℕ). refl)
units (number kind.U64) = twice refl (λ (k : ℕ). refl) (λ (k : ℕ). refl)
units _ = single refl (λ (k : ℕ). refl) (λ (k : ℕ). refl)

-- as many elements again
pub elements_back : (s : Scalar) (k m : ℕ) → is_whole s k ≡ true → elements_in s k ≡ m → k ≡ m * units_of s
elements_back s k m whole is = either (units s) where
  either : Units s → k ≡ m * units_of s
  either (single u w count) = let same : k ≡ m = sym (count k) ∙ is in rw u (omega (arith, same))
  either (twice u w count) =
      let half : k / 2 ≡ m = sym (count k) ∙ is in
      let even : k % 2 ≡ 0 = eqb-true (k % 2) 0 (sym (w k) ∙ whole) in
      rw u (omega (arith, half, even))

pub elements_are : (s : Scalar) (m : ℕ) → (is_whole s (m * units_of s) ≡ true) × (elements_in s (m * units_of s) ≡ m)
elements_are s m = (whole_of s m, elements_of s m)

-- ---- elements of so many octets

-- so many times so many
abbrev pub along : ℕ → ℕ → ℕ
along zero w = 0
along (suc n) w = w + along n w

pub along_one : (n : ℕ) → along n 1 ≡ n
along_one zero = refl
along_one (suc n) = let rest = along_one n in omega (arith, rest)

-- whole words
pub along_words : (n w : ℕ) → w % 4 ≡ 0 → along n w % 4 ≡ 0
along_words zero w h = refl
along_words (suc n) w h = let rest = along_words n w h in omega (arith, h, rest)

-- so many elements of so many octets have this length
pub along_times : (w n : ℕ) → along n w ≡ n * w
along_times w zero = sym (zero-mul w)
along_times w (suc n) = let rest = along_times w n in let more = suc-mul n w in omega (arith, rest, more)
