-- The image of a row whose numbers are octets is these octets, by induction on the numbers.
use Rattle.std.proofs.Common.{◌≡◌, ℕ, ◌%◌, ◌<◌, ℤ, pos, negsuc, List, [], ◌∷◌, map, true, IsTrue, nat_abs, refl, sym, ap, ◌∙◌, arith}
use Rattle.std.specs.List.{list_all}
use Rattle.std.specs.Int.{w8}
use Rattle.std.proofs.Math.Nat.{mod-eq_of_lt}
use Rattle.std.proofs.lemmas.Bool.{ltb-true}
use Rattle.hex.specs.Hex.{encode_lower}
use Rattle.serde_json.specs.Data.{string}
use Rattle.json_shape.specs.Texts.{text_of}
use Rattle.json_shape.specs.Written.{row_json}
use Rattle.wire_def.proofs.ScalarGrammar.{left_true, right_true}
use Rattle.mint.specs.declared.kind.Kind.{Kind}
use Rattle.mint.specs.declared.kind.Kind.TheVariants as kind
use Rattle.mint.specs.Kinds.{in_range, word}
use Rattle.mint.specs.Row.{octets_of, image_of}
use Rattle.mint.proofs.Octets.{octet_numbers, whole_octets, not_bool}

pub ruleset blocks = (octet_numbers, whole_octets, not_bool)

-- the image of octets is these octets
octet_image : (k : Kind) (n : ℤ) → word k ≡ w8 → in_range kind.Octet n ≡ true → octets_of k n ≡ nat_abs n ∷ []
unfolding octets_of
octet_image k (pos n) narrow h =
    let lt : n < 256 = ltb-true n 256 h in
    let small : n % 256 ≡ n = mod-eq_of_lt lt in
    rw narrow (ap (λ z. z ∷ []) small)
octet_image k (negsuc n) narrow h = absurd (omega (arith, ltb-true n 0 h))

octets_image : (k : Kind) (ns : List ℤ) → word k ≡ w8 → list_all (in_range kind.Octet) ns ≡ true → image_of k ns ≡ map nat_abs ns
octets_image k [] narrow h = refl
octets_image k (n ∷ ns) narrow h =
    rw (octet_image k n narrow (left_true (in_range kind.Octet n) _ h), octets_image k ns narrow (right_true (in_range kind.Octet n) _ h))
    refl

pub hex_row : (k : Kind) (ns : List ℤ) (image : List ℕ) → kind.Octet ≡ k → IsTrue (list_all (in_range k) ns) → image ≡ image_of k ns
    → string (encode_lower image) ≡ row_json k ns
hex_row k ns image is ranged same =
    let here : list_all (in_range kind.Octet) ns ≡ true = rw is ranged in
    rw (← is)
    (ap (λ (o : List ℕ). string (encode_lower o)) (same ∙ ap (λ (m : Kind). image_of m ns) (sym is) ∙ octets_image kind.Octet ns refl here))

pub char_row : (k : Kind) (ns : List ℤ) (image : List ℕ) → kind.Char ≡ k → IsTrue (list_all (in_range k) ns) → image ≡ image_of k ns
    → string (text_of image) ≡ row_json k ns
char_row k ns image is ranged same =
    let here : list_all (in_range kind.Char) ns ≡ true = rw is ranged in
    rw (← is)
    (ap (λ (o : List ℕ). string (text_of o)) (same ∙ ap (λ (m : Kind). image_of m ns) (sym is) ∙ octets_image kind.Char ns refl here))
