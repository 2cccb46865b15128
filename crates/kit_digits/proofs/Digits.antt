-- Digits one by one, by induction on the digits.
use Rattle.std.proofs.Common.{◌≡◌, ℕ, ◌+◌, ◌*◌, ◌<◌, List, [], ◌∷◌, length, take, get_or, Bool, true, false, ◌&&◌, Some, Ok, refl, sym, ap, ◌∙◌}
use Rattle.std.specs.List.{list_all}
use Rattle.std.proofs.lemmas.List.{take_more}
use Rattle.std.proofs.lemmas.List.Folds.{list_all_at, list_all-append}
use Rattle.hex.specs.Hex.{hex_digit_value, is_hex_digit, pair_value}

-- the digit at a place
pub digit_at : (s : List ℕ) (i : ℕ) → list_all is_hex_digit s ≡ true → i < length s → is_hex_digit (get_or s i 0) ≡ true
digit_at s i all h = step (is_hex_digit (get_or s i 0)) refl where
  step : (b : Bool) → is_hex_digit (get_or s i 0) ≡ b → is_hex_digit (get_or s i 0) ≡ true
  step true e = e
  step false e = let never : false ≡ true = sym (list_all_at is_hex_digit s i 0 h e) ∙ all in absurd cc

and_true : (b : Bool) → b ≡ (b && true)
and_true true = refl
and_true false = refl

-- one digit more
pub digit_more : (s : List ℕ) (i : ℕ) (b : Bool) → i < length s → b ≡ list_all is_hex_digit (take i s)
    → (b && is_hex_digit (get_or s i 0)) ≡ list_all is_hex_digit (take (i + 1) s)
digit_more s i b h e =
    rw (take_more s i 0 h, list_all-append is_hex_digit (take i s) (get_or s i 0 ∷ []), e)
    (ap (λ (c : Bool). list_all is_hex_digit (take i s) && c) (and_true (is_hex_digit (get_or s i 0))))

-- the octet of two digits
pub pair_is : (a b i v w : ℕ) → hex_digit_value a ≡ Some v → hex_digit_value b ≡ Some w → pair_value a b i ≡ Ok (v * 16 + w)
pair_is a b i v w e f = rw (e, f) refl
