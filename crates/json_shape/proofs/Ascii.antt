-- Strings of ASCII characters are their own octets, by induction on the octets.
use Rattle.std.proofs.Common.{◌≡◌, ℕ, suc, ◌<◌, List, [], ◌∷◌, true, Some, nat_lt, refl, sym, arith}
use Rattle.std.specs.Str.{IsAscii}
use Rattle.std.proofs.lemmas.Str.{chars-IsAscii, encodes-IsAscii}
use Rattle.std.proofs.lemmas.Bool.Decides.{nat_tests}
use Rattle.json_shape.specs.Texts.{are_octets, octets_of, text_of}

small_all : (s : List ℕ) → IsAscii s → are_octets s ≡ true
small_all [] h = refl
small_all (c ∷ s) h =
    let here : c < 128 = h 0 in
    let test : nat_lt c 256 ≡ true = grind (arith, nat_tests, here) in
    rw test (small_all s (λ i. h (suc i)))

-- its octets are its characters
pub ascii_octets : (s : List ℕ) → IsAscii s → octets_of s ≡ Some s
ascii_octets s h = rw (chars-IsAscii s h, small_all s h) refl

-- the string of its octets is the string itself
pub ascii_text : (s : List ℕ) → IsAscii s → s ≡ text_of s
ascii_text s h = sym (encodes-IsAscii s h)
