-- What is appended to octets that stand around a piece, and what is left of them.
use Rattle.std.proofs.Common.{◌≡◌, ◌≤◌, ◌+◌, ◌-◌, ℕ, List, [], ◌++◌, length, take, drop, Option, Some, None, is_none, false, ap, refl, sym, ◌∙◌, arith, append_assoc, append-nil}
use Rattle.std.proofs.lemmas.List.{take-append-le, drop-append-le, take_all, drop_all, drop-take, drop-drop, length-take-le}
use Rattle.cast_stub.specs.Around.{around}

-- more octets at the end
pub appended : (own more : List ℕ) (at : ℕ) (piece : Option (List ℕ)) → at ≤ length own
    → around (own ++ more) at piece ≡ around own at piece ++ more
appended own more at None h = refl
appended own more at (Some p) h =
    ap (λ (z : List ℕ). z ++ (p ++ drop at (own ++ more))) (take-append-le at own more h)
    ∙ ap (λ (z : List ℕ). take at own ++ (p ++ z)) (drop-append-le at own more h)
    ∙ ap (λ (z : List ℕ). take at own ++ z) (sym (append_assoc p (drop at own) more))
    ∙ sym (append_assoc (take at own) (p ++ drop at own) more)

-- a piece at the end
pub at_the_end : (own piece : List ℕ) → around own (length own) (Some piece) ≡ own ++ piece
at_the_end own piece =
    ap (λ (z : List ℕ). z ++ (piece ++ drop (length own) own)) (take_all (length own) own (omega arith))
    ∙ ap (λ (z : List ℕ). own ++ (piece ++ z)) (drop_all (length own) own (omega arith))
    ∙ ap (λ (z : List ℕ). own ++ z) (append-nil piece)

-- octets after the first of those before a piece
after_some : (own piece : List ℕ) (at many : ℕ) → at ≤ length own → many ≤ at
    → drop many (around own at (Some piece)) ≡ around (drop many own) (at - many) (Some piece)
after_some own piece at many h less =
    let sum : many + (at - many) ≡ at = omega (arith, less) in
    drop-append-le many (take at own) (piece ++ drop at own) (omega (arith, less, length-take-le at own h))
    ∙ ap (λ (n : ℕ). drop many (take n own) ++ (piece ++ drop n own)) (sym sum)
    ∙ ap (λ (z : List ℕ). z ++ (piece ++ drop (many + (at - many)) own)) (drop-take many (at - many) own)
    ∙ ap (λ (z : List ℕ). take (at - many) (drop many own) ++ (piece ++ z)) (sym (drop-drop (at - many) many own))

-- octets after the first, where those are not of the piece
pub left : (own : List ℕ) (at many : ℕ) (piece : Option (List ℕ)) → at ≤ length own → (is_none piece ≡ false → many ≤ at)
    → drop many (around own at piece) ≡ around (drop many own) (at - many) piece
left own at many None h less = refl
left own at many (Some p) h less = after_some own p at many h (less refl)

-- the same of what is appended to nothing
pub left_of : (own rest : List ℕ) (at many place : ℕ) (piece : Option (List ℕ)) (all none out : List ℕ) → all ≡ around own at piece
    → at ≤ length own → (is_none piece ≡ false → many ≤ at) → none ≡ [] → place ≡ at - many → rest ≡ drop many own
    → out ≡ none ++ around rest place piece → out ≡ drop many all
left_of own rest at many place piece all none out is h less nothing there cut made =
    made ∙ ap (λ (z : List ℕ). z ++ around rest place piece) nothing
    ∙ ap (λ (n : ℕ). around rest n piece) there
    ∙ ap (λ (z : List ℕ). around z (at - many) piece) cut
    ∙ sym (left own at many piece h less)
    ∙ ap (λ (z : List ℕ). drop many z) (sym is)
