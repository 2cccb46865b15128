-- Digits are ASCII text, by induction on the digits.
use Rattle.std.proofs.Common.{◌≡◌, ℕ, ◌<◌, List, [], ◌∷◌, true, nat_lt, refl, arith}
use Rattle.std.specs.List.{list_all}
use Rattle.std.specs.Str.{IsAscii, IsUtf8}
use Rattle.std.proofs.lemmas.Bool.{and_parts}
use Rattle.std.proofs.lemmas.Bool.Decides.{nat_tests}
use Rattle.std.proofs.lemmas.Str.{IsUtf8-from_ascii}
use Rattle.std.proofs.lemmas.Str.Ascii.{IsAscii-nil, IsAscii-cons}
use Rattle.hex.specs.Hex.{encode_lower, lower_digits}
use Rattle.hex.proofs.HexLemmas.{IsAscii-encode_with}

all_ascii : (s : List ℕ) → list_all (λ c. nat_lt c 128) s ≡ true → IsAscii s
all_ascii [] h = IsAscii-nil
all_ascii (c ∷ s) h =
    let parts = and_parts (nat_lt c 128) (list_all (λ c. nat_lt c 128) s) h in
    let here : c < 128 = grind (arith, nat_tests, parts.0) in
    IsAscii-cons c s here (all_ascii s parts.1)

-- digits are a string
pub digits_utf8 : (octets : List ℕ) → IsUtf8 (encode_lower octets)
digits_utf8 octets = IsUtf8-from_ascii (encode_lower octets) (IsAscii-encode_with lower_digits octets (all_ascii lower_digits refl))
