-- Numbers that are read digit by digit, by induction on the digits.
use Rattle.std.proofs.Common.{◌≡◌, ℕ, ◌+◌, ◌-◌, ◌*◌, ◌<◌, ◌≤◌, Bool, true, false, List, [], ◌∷◌, length, drop, drop-cons, get_or, suc, sym, ◌∙◌, arith}
use Rattle.std.specs.Prelude.{Some, None, ◌&&◌, ◌==◌, nat_le, if◌then◌else◌}
use Rattle.std.proofs.lemmas.Bool.Decides.{nat_tests}
use Rattle.kit_base.specs.Decimal.{value_on, number_in}

-- a number does not fall as it is read on
pub value_on-le : (n : ℕ) (ds : List ℕ) (m : ℕ) → value_on n ds ≡ Some m → n ≤ m
value_on-le n [] m e = let same : n ≡ m = cc in omega arith
value_on-le n (d ∷ ds) m e = go (nat_le 48 d && nat_le d 57) (value_on-le (10 * n + (d - 48)) ds m) e where
  go : (b : Bool) → (value_on (10 * n + (d - 48)) ds ≡ Some m → 10 * n + (d - 48) ≤ m)
      → (if b then value_on (10 * n + (d - 48)) ds else None) ≡ Some m → n ≤ m
  go true below f = let more = below f in omega (arith, more)
  go false below f = absurd (cc f)

-- the number of a word is that of its digits
pub number_value : (word : List ℕ) (m : ℕ) → number_in word ≡ Some m → value_on 0 word ≡ Some m
number_value [] m e = absurd (cc e)
number_value (d ∷ ds) m e = go (d == 48) e where
  go : (b : Bool) → (if b then None else value_on 0 (d ∷ ds)) ≡ Some m → value_on 0 (d ∷ ds) ≡ Some m
  go true f = absurd (cc f)
  go false f = f

-- the digit at a place makes the number at least so large
pub digit-le : (word : List ℕ) (i n m : ℕ) → value_on 0 word ≡ value_on n (drop i word) → i < length word
    → 48 ≤ get_or word i 0 → get_or word i 0 ≤ 57 → value_on 0 word ≡ Some m
    → 10 * n + (get_or word i 0 - 48) ≤ m
digit-le word i n m so_far within low high e =
    let d = get_or word i 0 in
    let test : (nat_le 48 d && nat_le d 57) ≡ true = grind (arith, nat_tests, low, high) in
    let cut : drop i word ≡ d ∷ drop (suc i) word = drop-cons word i 0 within in
    let whole : value_on n (drop i word) ≡ Some m = sym so_far ∙ e in
    let rest : value_on (10 * n + (d - 48)) (drop (suc i) word) ≡ Some m = rw (cut, test) at whole in
    value_on-le (10 * n + (d - 48)) (drop (suc i) word) m rest
