-- Counting up to the end of a comment.
use Rattle.std.proofs.Common.{◌≡◌, ℕ, suc, ◌+◌, ◌<◌, List, ◌∷◌, length, get_or, take, drop, ◌-◌, sym, length-drop, Option, Some, None, false, refl, ap, ◌∙◌, nat_eq, codes, arith}
use Rattle.std.proofs.Math.Seq.{drop-cons, take-length}
use Rattle.std.specs.Option.{option_map}
use Rattle.std.specs.List.{starts_with}
use Rattle.idl_lex.specs.Pieces.{count_to_close}

shifted : (i : ℕ) (o : Option ℕ) → option_map (λ n. i + n) (option_map suc o) ≡ option_map (λ n. i + 1 + n) o
shifted i None = refl
shifted i (Some n) = ap Some (omega arith)

counted : (i : ℕ) (o : ℕ) (os : List ℕ) → starts_with nat_eq (o ∷ os) (codes "*/") ≡ false
    → option_map (λ n. i + n) (count_to_close (o ∷ os)) ≡ option_map (λ n. i + 1 + n) (count_to_close os)
counted i o os not_here = rw not_here (shifted i (count_to_close os))

-- what is at a place and after it, as a slice of the text
pub rest_is : (text : List ℕ) (i : ℕ) → take (length text - i) (drop i text) ≡ drop i text
rest_is text i = let n : length text - i ≡ length (drop i text) = sym (length-drop i text) in rw n (take-length (drop i text))

-- the octet at a place, and what follows it
pub drop_at : (text : List ℕ) (i : ℕ) → i < length text → drop i text ≡ get_or text i 0 ∷ drop (i + 1) text
drop_at text i lt = let next : i + 1 ≡ suc i = omega arith in rw next (drop-cons text i 0 lt)

-- no end at a place, so that the count goes on after it
pub count_on : (text : List ℕ) (i : ℕ) (c : Option ℕ) → c ≡ option_map (λ n. i + n) (count_to_close (drop i text))
    → i < length text → starts_with nat_eq (take (length text - i) (drop i text)) (codes "*/") ≡ false
    → c ≡ option_map (λ n. i + 1 + n) (count_to_close (drop (i + 1) text))
count_on text i c is lt not_here =
    let cut = drop_at text i lt in
    let rest : take (length text - i) (drop i text) ≡ get_or text i 0 ∷ drop (i + 1) text = rest_is text i ∙ cut in
    let at : starts_with nat_eq (get_or text i 0 ∷ drop (i + 1) text) (codes "*/") ≡ false = rw rest at not_here in
    is ∙ ap (λ os. option_map (λ n. i + n) (count_to_close os)) cut ∙ counted i (get_or text i 0) (drop (i + 1) text) at
