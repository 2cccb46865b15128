-- Octets in pieces, in hexadecimal digits.
use Rattle.std.proofs.Common.{◌≡◌, ℕ, ◌/◌, ◌%◌, List, [], ◌∷◌, ◌++◌, refl, ap, sym, ◌∙◌, append_assoc}
use Rattle.stub_print.specs.Words.{hex, hex_digit, spaced}
use Rattle.stub_print.specs.Putting.{IsPut}

-- the digits of octets, and of those after them
pub hex-append : (a b : List ℕ) → hex (a ++ b) ≡ hex a ++ hex b
hex-append [] b = refl
hex-append (o ∷ os) b = ap (λ (z : List ℕ). hex_digit (o / 16) ∷ hex_digit (o % 16) ∷ z) (hex-append os b)

-- more of a word that is put
word_more : (old mid new word more : List ℕ) → IsPut old (spaced word) mid → new ≡ mid ++ more → IsPut old (spaced (word ++ more)) new
word_more old mid new word more put is rest =
    ap (λ (z : List ℕ). old ++ (32 ∷ z)) (append_assoc word more rest) ∙ put (more ++ rest) ∙ sym (append_assoc mid more rest)
    ∙ ap (λ (z : List ℕ). z ++ rest) (sym is)

-- the digits of three pieces
pub hexed : (old one two new a b c : List ℕ) → IsPut old (spaced (hex a)) one → two ≡ one ++ hex b → new ≡ two ++ hex c
    → IsPut old (spaced (hex (a ++ (b ++ c)))) new
hexed old one two new a b c put second third rest =
    let digits : hex (a ++ (b ++ c)) ≡ (hex a ++ hex b) ++ hex c =
    hex-append a (b ++ c) ∙ ap (λ (z : List ℕ). hex a ++ z) (hex-append b c) ∙ sym (append_assoc (hex a) (hex b) (hex c)) in
    ap (λ (z : List ℕ). old ++ spaced z rest) digits
    ∙ word_more old two new (hex a ++ hex b) (hex c) (word_more old one two (hex a) (hex b) put second) third rest
