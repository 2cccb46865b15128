-- The image of a row whose numbers are octets is these octets, by induction on the numbers.
use Rattle.std.proofs.Common.{◌≡◌, ◌%◌, ◌<◌, ℤ, pos, negsuc, List, [], ◌∷◌, map, true, refl, ap, arith}
use Rattle.std.specs.List.{list_all}
use Rattle.std.specs.Int.{w8}
use Rattle.std.proofs.Math.Nat.{mod-eq_of_lt}
use Rattle.std.proofs.lemmas.Bool.{ltb-true}
use Rattle.mint.specs.declared.kind.Kind.{Kind}
use Rattle.mint.specs.declared.kind.Kind.TheVariants as kind
use Rattle.mint.specs.Kinds.{in_range, word}
use Rattle.mint.specs.Row.{octets_of, image_of}
use Rattle.mint.proofs.Octets.{octet_numbers, whole_octets, not_bool}
use Rattle.wire_def.specs.Arrays.{natural}
use Rattle.wire_def.proofs.ScalarGrammar.{left_true, right_true}

octet_image : (k : Kind) (n : ℤ) → word k ≡ w8 → in_range kind.Octet n ≡ true → octets_of k n ≡ natural n ∷ []
unfolding octets_of
octet_image k (pos n) narrow h =
    let lt : n < 256 = ltb-true n 256 h in
    let small : n % 256 ≡ n = mod-eq_of_lt lt in
    rw narrow (ap (λ z. z ∷ []) small)
octet_image k (negsuc n) narrow h = absurd (omega (arith, ltb-true n 0 h))

pub octets_image : (k : Kind) (ns : List ℤ) → word k ≡ w8 → list_all (in_range kind.Octet) ns ≡ true → image_of k ns ≡ map natural ns
octets_image k [] narrow h = refl
octets_image k (n ∷ ns) narrow h =
    rw (octet_image k n narrow (left_true (in_range kind.Octet n) _ h), octets_image k ns narrow (right_true (in_range kind.Octet n) _ h))
    refl

pub ruleset images = (octets_image, octet_numbers, whole_octets, not_bool)
