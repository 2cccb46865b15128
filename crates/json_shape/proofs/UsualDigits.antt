-- Integers of at most 64 bits that are read of the texts of numbers, by induction on the digits.
use Rattle.std.proofs.Common.{◌≡◌, ◌==◌, ◌<◌, ◌≤◌, ◌+◌, ◌-◌, ◌*◌, ◌^◌, ◌&&◌, ◌-ℤ◌, ℕ, zero, suc, ℤ, pos, neg_ℤ, List, [], ◌∷◌, ◌++◌, length, drop, nat_le, true, false, Option, Some, None, refl, sym, ap, ◌∙◌, subst, arith, append-nil, lt-ltb, le-leb}
use lib.IntN.{+ℤ_idl}
use Rattle.std.specs.Prelude.{IfSome, slice_index}
use Rattle.std.specs.Char.{digit_value}
use Rattle.std.specs.Str.Parse.{digits_value, digits_value_after, AllDigits}
use Rattle.std.proofs.lemmas.Bool.{leb-true}
use Rattle.std.proofs.lemmas.Str.{digit_value_digit}
use Rattle.fast_float.specs.Text.{digits_of, scan, IsWellFormed, Parts}
use Rattle.fast_float.proofs.Writing.{scan-text_of}
use Rattle.kit_base.specs.Decimal.{value_on}
use Rattle.serde_json.specs.Find.{of_integer}
use Rattle.serde_json.specs.Read.{number_from, number_of}
use Rattle.wire_def.proofs.ScalarGrammar.{left_true, right_true}
use Rattle.json_shape.proofs.Options.{one_some, tested_from}

-- what is written on after n is digits, and their number
written : (n : ℕ) (ds : List ℕ) (m : ℕ) → value_on n ds ≡ Some m → AllDigits 10 ds × (digits_value_after 10 n ds ≡ m)
written n [] m h = (tt, one_some n m h)
written n (d ∷ ds) m h =
    let two = tested_from (nat_le 48 d && nat_le d 57) (value_on (10 * n + (d - 48)) ds) m h in
    let least : 48 ≤ d = leb-true 48 d (left_true _ (nat_le d 57) two.0) in
    let most : d ≤ 57 = leb-true d 57 (right_true (nat_le 48 d) _ two.0) in
    let is : digit_value d + 48 ≡ d = digit_value_digit d (least, most) in
    let same : n * 10 + digit_value d ≡ 10 * n + (d - 48) = omega (arith, is, least) in
    let rest = written (10 * n + (d - 48)) ds m two.1 in
    ((omega (arith, is, most), rest.0), ap (λ (x : ℕ). digits_value_after 10 x ds) same ∙ rest.1)

-- a numeral of these digits alone
abbrev whole : List ℕ → Parts
whole ds = record {
  whole = ds;
  point = false;
  fraction = [];
  exponent_negative = false;
  exponent = [];
  len = length (ds ++ []);
}

scanned : (ds : List ℕ) → AllDigits 10 ds → scan ds ≡ whole ds
scanned ds h =
    let formed : IsWellFormed (whole ds) = record {
      whole_digits = h;
      fraction_digits = tt;
      exponent_digits = tt;
      no_point = λ _. refl;
      no_exponent = λ _. refl;
      len_is = refl;
    } in
    ap scan (sym (append-nil ds)) ∙ scan-text_of (whole ds) formed

-- the number of digits, and its negative
pub positive_digits : (ds : List ℕ) (n : ℕ) (z : ℤ) → 0 < length ds → value_on 0 ds ≡ Some n → n < 2 ^ 64 → z ≡ pos n
    → number_from false (scan ds) ≡ Some (of_integer z)
positive_digits ds n z some is small same =
    let two = written 0 ds n is in
    let value : digits_of (whole ds) ≡ n = ap (digits_value 10) (append-nil ds) ∙ two.1 in
    ap (number_from false) (scanned ds two.0) ∙ rw (lt-ltb _ _ some, value) (rw (lt-ltb _ _ small) refl)
    ∙ ap (λ (x : ℤ). Some (of_integer x)) (sym same)

pub negative_digits : (ds : List ℕ) (n : ℕ) (z : ℤ) → value_on 0 ds ≡ Some n → 0 < n → n ≤ 2 ^ 63 → z ≡ neg_ℤ (pos n)
    → number_from true (scan ds) ≡ Some (of_integer z)
negative_digits ds zero z is above small same = absurd (omega (arith, above))
negative_digits [] (suc n) z is above small same = absurd cc
negative_digits (d ∷ ds) (suc n) z is above small same =
    let two = written 0 (d ∷ ds) (suc n) is in
    let value : digits_of (whole (d ∷ ds)) ≡ suc n = ap (digits_value 10) (append-nil (d ∷ ds)) ∙ two.1 in
    let some : 0 < length (d ∷ ds) = omega arith in
    ap (number_from true) (scanned (d ∷ ds) two.0) ∙ rw (lt-ltb _ _ some, value) (rw (lt-ltb _ _ above, le-leb _ _ small) refl)
    ∙ ap (λ (x : ℤ). Some (of_integer x)) (sym same)

pub below_zero : (n : ℕ) → pos 0 -ℤ pos n ≡ neg_ℤ (pos n)
below_zero n = +ℤ_idl (neg_ℤ (pos n))

-- the number of a text that begins with a minus, and of one that does not
pub negative_number : (s os rest : List ℕ) (o : Option ℤ) → os ≡ s → rest ≡ drop 1 os → true ≡ (slice_index os 0 == 45)
    → IfSome o (λ n. number_from true (scan rest) ≡ Some (of_integer n)) → IfSome o (λ n. number_of s ≡ Some (of_integer n))
unfolding number_of
negative_number s os rest None same after is h = tt
negative_number s os rest (Some n) same after is h =
    let first : (slice_index s 0 == 45) ≡ true = sym (is ∙ ap (λ (x : List ℕ). slice_index x 0 == 45) same) in
    let left : rest ≡ drop 1 s = after ∙ ap (drop 1) same in
    rw first (subst (λ (x : List ℕ). number_from true (scan x) ≡ Some (of_integer n)) left h)

pub positive_number : (s os : List ℕ) (o : Option ℤ) → os ≡ s → false ≡ (slice_index os 0 == 45)
    → IfSome o (λ n. number_from false (scan os) ≡ Some (of_integer n)) → IfSome o (λ n. number_of s ≡ Some (of_integer n))
unfolding number_of
positive_number s os None same is h = tt
positive_number s os (Some n) same is h =
    let first : (slice_index s 0 == 45) ≡ false = sym (is ∙ ap (λ (x : List ℕ). slice_index x 0 == 45) same) in
    rw first (subst (λ (x : List ℕ). number_from false (scan x) ≡ Some (of_integer n)) same h)
