use Rattle.std.proofs.Common.{◌≡◌, ℕ, List, [], ◌++◌, drop, None}
use Rattle.aoi.specs.Shapes.{members, arms_seen}
use Rattle.flick_texts.specs.TypeText.{fields_text, arms_text, names_of, trees_of}
use Rattle.flick_texts.proofs.types.+put.Given as goal

-- what is put, and what is left
abbrev pub invariant-put_fields-loop-field : goal.invariant-put_fields-loop-field
invariant-put_fields-loop-field l = (rest : List ℕ) → l.fn.out ++ fields_text (names_of (trees_of l.types)) [] (members l.fields) rest
    ≡ l.out ++ fields_text (names_of (trees_of l.types)) l.mark (members (drop l.field-index l.fields)) rest

-- the same of arms
abbrev pub invariant-put_arms-loop-n : goal.invariant-put_arms-loop-n
invariant-put_arms-loop-n l = (rest : List ℕ)
    → l.fn.out ++ arms_text (names_of (trees_of l.types)) [] (arms_seen l.arms None) rest
    ≡ l.out ++ arms_text (names_of (trees_of l.types)) l.mark (arms_seen (drop l.n-index l.arms) None) rest
