-- The numbers of words.
use Rattle.std.proofs.Common.{◌≡◌, ◌≢◌, ℕ, ◌+◌, ◌-◌, ◌*◌, ◌^◌, ◌<◌, ◌≤◌, Bool, true, false, List, ◌∷◌, length, drop, drop-cons, get_or, suc, refl, sym, ◌∙◌, arith}
use Rattle.std.specs.Prelude.{Option, Some, None, ◌&&◌, nat_le, if◌then◌else◌}
use Rattle.std.proofs.lemmas.Bool.Decides.{nat_tests}
use Rattle.kit_base.specs.Decimal.{value_on}
use Rattle.kit_base.proofs.Found.{value_on-le}
use Rattle.flick_top.specs.Numbers.{at_most, number_in}

-- what does not fit is not at most a number that does
pub none-at_most : (most : ℕ) (o : Option ℕ) → most < 2 ^ 64 → ((n : ℕ) → n < 2 ^ 64 → o ≢ Some n) → None ≡ at_most most o
none-at_most most None fits none = refl
none-at_most most (Some m) fits none = go (nat_le m most) refl where
  go : (b : Bool) → nat_le m most ≡ b → None ≡ (if b then Some m else None)
  go true e = let below : m ≤ most = grind (arith, nat_tests, e) in absurd (none m (omega arith) refl)
  go false e = refl

-- a word of 1 to 20 octets is read so
pub number-within : (most : ℕ) (word : List ℕ) (r : Option ℕ) → 1 ≤ length word → length word ≤ 20
    → r ≡ at_most most (value_on 0 word) → r ≡ number_in most word
number-within most word r low high e =
    let test : (nat_le 1 (length word) && nat_le (length word) 20) ≡ true = grind (arith, nat_tests, low, high) in
    rw test e
