-- The characters of a string, one by one.
use Rattle.std.proofs.Common.{◌≡◌, ℕ, ◌<◌, ◌≤◌, List, [], ◌∷◌, ◌++◌, length, true, false, Some, None, chars, encode_utf8, IsUtf8, nat_lt, refl, sym, ap, ◌∙◌, arith, append-nil, append_assoc}
use Rattle.std.proofs.lemmas.Str.{chars_past_char, IsUtf8-past_char, chars-nil, encodes-append}
use Rattle.std.proofs.lemmas.List.{nil_from_length}
use Rattle.std.proofs.lemmas.List.Folds.{list_all-append}
use Rattle.std.proofs.lemmas.Bool.Decides.{nat_tests}
use Rattle.json_shape.specs.Texts.{is_octet, are_octets, octets_of, text_of}

-- octets so far, and those of the rest, are all
pub record Left (front rest all : List ℕ) : Type 0 where
  pub utf8 : IsUtf8 rest
  pub small : are_octets front ≡ true
  pub whole : front ++ chars rest ≡ chars all

pub starts : (text : List ℕ) → IsUtf8 text → Left [] text text
starts text utf8 = record { utf8 = utf8; small = refl; whole = refl }

small_one : (c : ℕ) → c ≤ 255 → are_octets (c ∷ []) ≡ true
small_one c h =
    let test : nat_lt c 256 ≡ true = grind (arith, nat_tests, h) in
    rw test refl

large_one : (c : ℕ) → 255 < c → nat_lt c 256 ≡ false
large_one c h = grind (arith, nat_tests, h)

pub goes_on : (front rest more all : List ℕ) (n c : ℕ) → n ≡ c → Left front rest all → rest ≡ encode_utf8 c ++ more → n ≤ 255
    → Left (front ++ n ∷ []) more all
goes_on front rest more all n c same l is h =
    let here : rest ≡ encode_utf8 n ++ more = is ∙ ap (λ (x : ℕ). encode_utf8 x ++ more) (sym same) in
    record {
      utf8 = IsUtf8-past_char rest more n l.utf8 here;
      small = list_all-append is_octet front (n ∷ []) ∙ rw (l.small, small_one n h) refl;
      whole = append_assoc front (n ∷ []) (chars more) ∙ ap (λ cs. front ++ cs) (sym (chars_past_char rest more n l.utf8 here)) ∙ l.whole;
    }

pub stops : (front rest more all : List ℕ) (n c : ℕ) → n ≡ c → Left front rest all → rest ≡ encode_utf8 c ++ more → 255 < n
    → octets_of all ≡ None
stops front rest more all n c same l is h =
    let here : rest ≡ encode_utf8 n ++ more = is ∙ ap (λ (x : ℕ). encode_utf8 x ++ more) (sym same) in
    let there : front ++ (n ∷ chars more) ≡ chars all = ap (λ cs. front ++ cs) (sym (chars_past_char rest more n l.utf8 here)) ∙ l.whole in
    let test : are_octets (front ++ (n ∷ chars more)) ≡ false =
    list_all-append is_octet front (n ∷ chars more) ∙ rw (l.small, large_one n h) refl in
    rw (← there, test) refl

pub ends : (front rest all : List ℕ) → Left front rest all → length rest ≡ 0 → octets_of all ≡ Some front
ends front rest all l none =
    let empty : chars rest ≡ [] = ap chars (nil_from_length rest none) ∙ chars-nil in
    let there : front ≡ chars all = sym (append-nil front) ∙ ap (λ cs. front ++ cs) (sym empty) ∙ l.whole in
    rw (← there, l.small) refl

-- one more octet after the string of others
pub text_of-push : (octets : List ℕ) (o : ℕ) → text_of octets ++ encode_utf8 o ≡ text_of (octets ++ o ∷ [])
text_of-push octets o = ap (λ bs. text_of octets ++ bs) (sym (append-nil (encode_utf8 o))) ∙ sym (encodes-append octets (o ∷ []))
