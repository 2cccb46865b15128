-- Strings that begin with the string of octets, and what comes after it.
use Rattle.std.proofs.Common.{◌≡◌, ℕ, List, [], ◌∷◌, ◌++◌, true, false, bytes_eq, nat_eq, refl, sym, ◌∙◌}
use Rattle.std.proofs.lemmas.Str.{encodes-append}
use Rattle.std.proofs.lemmas.Slice.Eq.{bytes_eq-Decides}
use Rattle.std.proofs.lemmas.Bool.Decides.{Decides-eqb}
use Rattle.json_shape.specs.Texts.{text_of}
use Rattle.std.proofs.lemmas.Bool.{false_from_ne_true}

same_front : (p xs ys : List ℕ) → bytes_eq (p ++ xs) (p ++ ys) ≡ bytes_eq xs ys
same_front [] xs ys = refl
same_front (c ∷ p) xs ys =
    let test : nat_eq c c ≡ true = (Decides-eqb c c).1 refl in
    rw test (same_front p xs ys)

-- the string of octets and others, once that of the octets is passed
pub peeled : (a b text rest : List ℕ) → text ≡ text_of a ++ rest → bytes_eq (text_of (a ++ b)) text ≡ bytes_eq (text_of b) rest
peeled a b text rest is = rw (encodes-append a b, is) (same_front (text_of a) (text_of b) rest)

pub unpeeled : (a b text : List ℕ) → ((more : List ℕ) → text ≡ text_of a ++ more → ⊥) → bytes_eq (text_of (a ++ b)) text ≡ false
unpeeled a b text h =
    false_from_ne_true (bytes_eq (text_of (a ++ b)) text)
    (λ e. h (text_of b) (sym ((bytes_eq-Decides (text_of (a ++ b)) text).0 e) ∙ encodes-append a b))
