-- What a reader of lines has answered at the end of its input.
use Rattle.std.proofs.Common.{◌≡◌, ℕ, true, false, List, [], ◌++◌, refl, ◌∙◌, ap, append-nil}
use Rattle.std.specs.Prelude.{Option, Some, None}
use Rattle.kit_base.specs.Lines.{State, Advances, KnowsEnd, pending, lines}
use Rattle.kit_base.specs.declared.lines.Line.{Line}

-- from a new reader to the end of its source the lines answered are those of the input
pub lines-answered : (input : List ℕ) (after : Option (List ℕ)) (s t : State) (answered : List Line) → s.kept ≡ [] → s.skips ≡ false
    → Advances (Some input) after s t answered → KnowsEnd t after → t.ended ≡ true → pending t [] ≡ [] → lines s.longest input ≡ answered
lines-answered input None s t answered kept skips (got, consumed, passed) knows ended none = absurd consumed
lines-answered input (Some rest) s t answered kept skips (got, consumed, passed) knows ended none =
    let all : input ≡ got ++ [] = consumed ∙ ap (λ (r : List ℕ). got ++ r) (knows ended) in
    let answers : pending s (got ++ []) ≡ answered ++ [] = passed.answers [] (λ _. refl) ∙ ap (λ (l : List Line). answered ++ l) none in
    let begun : lines s.longest (got ++ []) ≡ pending s (got ++ []) = rw (kept, skips) in
    ap (lines s.longest) all ∙ begun ∙ answers ∙ append-nil answered
