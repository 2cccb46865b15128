-- The digits of octets one after the other, by induction on the octets.
use Rattle.std.proofs.Common.{◌≡◌, ℕ, List, [], ◌∷◌, ◌++◌, slice_index, refl, sym, ap, ◌∙◌, append_assoc}
use Rattle.hex.specs.Hex.{encode_lower, encode_with, lower_digits}

pub digits_append : (xs ys : List ℕ) → encode_lower (xs ++ ys) ≡ encode_lower xs ++ encode_lower ys
unfolding encode_with
digits_append [] ys = refl
digits_append (x ∷ xs) ys = rw (digits_append xs ys) refl

-- the digits of one more piece
pub one_more : (out now old all rest piece more : List ℕ) → out ++ encode_lower rest ≡ old ++ encode_lower all
    → rest ≡ piece ++ more → now ≡ out ++ encode_lower piece → now ++ encode_lower more ≡ old ++ encode_lower all
one_more out now old all rest piece more so parts is =
    ap (λ (o : List ℕ). o ++ encode_lower more) is
    ∙ append_assoc out (encode_lower piece) (encode_lower more)
    ∙ ap (λ (d : List ℕ). out ++ d) (sym (digits_append piece more) ∙ ap (λ (r : List ℕ). encode_lower r) (sym parts))
    ∙ so
