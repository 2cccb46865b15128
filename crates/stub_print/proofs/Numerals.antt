-- Numbers in decimal: those of std, and what they tell, by induction on a bound of the number.
use Rattle.std.proofs.Common.{◌≡◌, ℕ, zero, suc, ◌+◌, ◌-◌, ◌*◌, ◌/◌, ◌%◌, ◌^◌, ◌<◌, ◌≤◌, inl, inr, cond, ℤ, pos, negsuc, List, [], ◌∷◌, ◌++◌, length, refl, ap, ◌∙◌, arith, lt-ltb, le-ltb, FitsSigned}
use Rattle.std.proofs.lemmas.Bool.{cases_lt}
use Rattle.std.proofs.lemmas.Fmt.{decimal_by_steps_wide}
use Rattle.std.specs.Fmt.{decimal, signed_decimal}
use Rattle.std.specs.Int.{w128}
use Rattle.stub_print.specs.Words.{digits, numeral, integer}

few : (k n : ℕ) → n < 10 → digits (suc k) n ≡ (48 + n) ∷ []
few k n h = ap (λ t. cond t ((48 + n) ∷ []) (digits k (n / 10) ++ ((48 + n % 10) ∷ []))) (lt-ltb n 10 h)

more : (k n : ℕ) → 10 ≤ n → digits (suc k) n ≡ digits k (n / 10) ++ ((48 + n % 10) ∷ [])
more k n h = ap (λ t. cond t ((48 + n) ∷ []) (digits k (n / 10) ++ ((48 + n % 10) ∷ []))) (le-ltb n 10 h)

-- ---- they are std's

few_are : (m : ℕ) → m < 10 → (k : ℕ) → m < k → digits k m ≡ (48 + m) ∷ []
few_are m l zero le = absurd (omega arith)
few_are m l (suc k) le = few k m l

more_are : (m : ℕ) (ds : List ℕ) → 10 ≤ m → ((k : ℕ) → m / 10 < k → digits k (m / 10) ≡ ds) → (k : ℕ) → m < k
    → digits k m ≡ ds ++ ((48 + m % 10) ∷ [])
more_are m ds l g zero le = absurd (omega arith)
more_are m ds l g (suc k) le = more k m l ∙ ap (λ x. x ++ ((48 + m % 10) ∷ [])) (g k (omega arith))

pub numeral_wide : (n : ℕ) → n < 10 ^ 64 → numeral n ≡ decimal n
unfolding numeral
numeral_wide n h = decimal_by_steps_wide (λ m ds. (k : ℕ) → m < k → digits k m ≡ ds) few_are more_are n h (suc n) (omega arith)

pub numeral_is : (n : ℕ) → n < 2 ^ 64 → numeral n ≡ decimal n
numeral_is n h = numeral_wide n (omega arith)

pub integer_is : (z : ℤ) → FitsSigned w128 z → integer z ≡ signed_decimal z
unfolding integer
integer_is (pos n) h = let fits = h.sfits in numeral_wide n (omega arith)
integer_is (negsuc n) h = let fits = h.sfits in ap (λ w. 45 ∷ w) (numeral_wide (suc n) (omega arith))

-- ---- what they tell

-- the number of digits, after a number
abbrev pub value : ℕ → List ℕ → ℕ
value n [] = n
value n (d ∷ ds) = value (10 * n + (d - 48)) ds

value-append : (n : ℕ) (xs ys : List ℕ) → value n (xs ++ ys) ≡ value (value n xs) ys
value-append n [] ys = refl
value-append n (x ∷ xs) ys = value-append (10 * n + (x - 48)) xs ys

last_value : (m n d : ℕ) → m ≡ n / 10 → d ≡ n % 10 → 10 * m + ((48 + d) - 48) ≡ n
last_value m n d tens ones = omega arith

value_digits : (k n : ℕ) → n < k → value 0 (digits k n) ≡ n
value_digits zero n h = absurd (omega arith)
value_digits (suc k) n h = elim (cases_lt n 10) [
  | inl l ↦ ap (value 0) (few k n l) ∙ omega arith
  | inr g ↦ ap (value 0) (more k n g) ∙ value-append 0 (digits k (n / 10)) ((48 + n % 10) ∷ [])
      ∙ last_value (value 0 (digits k (n / 10))) n (n % 10) (value_digits k (n / 10) (omega arith)) refl
]

pub value_numeral : (n : ℕ) → value 0 (numeral n) ≡ n
unfolding numeral
value_numeral n = value_digits (suc n) n (omega arith)

-- ---- their octets

-- digits, or letters
abbrev pub AreDigits : List ℕ → Type 0
AreDigits [] = Unit {0}
AreDigits (c ∷ cs) = (48 ≤ c) × AreDigits cs

pub AreDigits-append : (xs ys : List ℕ) → AreDigits xs → AreDigits ys → AreDigits (xs ++ ys)
AreDigits-append [] ys h k = k
AreDigits-append (x ∷ xs) ys h k = (h.0, AreDigits-append xs ys h.1 k)

digits_are : (k n : ℕ) → AreDigits (digits k n)
digits_are zero n = tt
digits_are (suc k) n = elim (cases_lt n 10) [
  | inl l ↦ rw (few k n l) (omega arith, tt)
  | inr g ↦ rw (more k n g) (AreDigits-append (digits k (n / 10)) ((48 + n % 10) ∷ []) (digits_are k (n / 10)) (omega arith, tt))
]

pub numeral_digits : (n : ℕ) → AreDigits (numeral n)
unfolding numeral
numeral_digits n = digits_are (suc n) n

some : (xs : List ℕ) (d : ℕ) → 0 < length (xs ++ (d ∷ []))
some [] d = omega arith
some (x ∷ xs) d = omega arith

some_digits : (k n : ℕ) → 0 < length (digits (suc k) n)
some_digits k n = elim (cases_lt n 10) [
  | inl l ↦ rw (few k n l) (omega arith)
  | inr g ↦ rw (more k n g) (some (digits k (n / 10)) (48 + n % 10))
]

pub numeral_some : (n : ℕ) → 0 < length (numeral n)
unfolding numeral
numeral_some n = some_digits n n
