-- Octets are two lists, one after the other, exactly where what is left behind the first is the second.
use Rattle.std.proofs.Common.{◌≡◌, ℕ, Bool, true, false, eqb, List, [], ◌∷◌, ◌++◌, take, drop, length, refl, sym, ap, ◌∙◌}
use Rattle.std.specs.Cmp.Lexicographic.{pointwise, bytes_decides}
use Rattle.std.proofs.lemmas.List.{take-append-drop}

same_tests : (b c : Bool) → (b ≡ true → c ≡ true) → (c ≡ true → b ≡ true) → b ≡ c
same_tests true c f g = sym (f refl)
same_tests false true f g = g refl
same_tests false false f g = refl

behind : (first a b : List ℕ) → first ++ a ≡ first ++ b → a ≡ b
behind [] a b e = e
behind (x ∷ first) a b e = let rest : first ++ a ≡ first ++ b = cc in behind first a b rest

front : (first a : List ℕ) → take (length first) (first ++ a) ≡ first
front [] a = refl
front (x ∷ first) a = ap (λ (l : List ℕ). x ∷ l) (front first a)

pub stripped : (first last whole rest : List ℕ) (r : Bool) → pointwise eqb (take (length first) whole) first ≡ true
    → rest ≡ drop (length first) whole → r ≡ pointwise eqb last rest → r ≡ pointwise eqb (first ++ last) whole
stripped first last whole rest r begins is says =
    let all : first ++ rest ≡ whole =
    ap (λ (l : List ℕ). first ++ l) is
    ∙ ap (λ (l : List ℕ). l ++ drop (length first) whole) (sym ((bytes_decides (take (length first) whole) first).0 begins))
    ∙ take-append-drop (length first) whole in
    same_tests r (pointwise eqb (first ++ last) whole)
    (λ t. (bytes_decides (first ++ last) whole).1
    (ap (λ (l : List ℕ). first ++ l) ((bytes_decides last rest).0 (sym says ∙ t)) ∙ all))
    (λ t. says ∙ (bytes_decides last rest).1 (behind first last rest ((bytes_decides (first ++ last) whole).0 t ∙ sym all)))

pub unstripped : (first last whole : List ℕ) → pointwise eqb (take (length first) whole) first ≡ false
    → false ≡ pointwise eqb (first ++ last) whole
unstripped first last whole other =
    same_tests false (pointwise eqb (first ++ last) whole) (λ t. absurd (cc t))
    (λ t. sym other ∙ (bytes_decides (take (length first) whole) first).1
    (ap (take (length first)) (sym ((bytes_decides (first ++ last) whole).0 t)) ∙ front first last))
