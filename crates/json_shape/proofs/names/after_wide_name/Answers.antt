use Rattle.std.proofs.Common.{sym, ap, ◌∙◌, codes, ◌++◌, List, ℕ, bytes_eq}
use Rattle.std.specs.Str.Iter.{chars_rest}
use Rattle.json_shape.specs.Texts.{text_of}
use Rattle.json_shape.proofs.Passing.{peeled, unpeeled}
use Rattle.json_shape.proofs.names.after_wide_name.Goals as goal

pub returns-in_default-clause-none : goal.returns-in_default-clause-none
returns-in_default-clause-none c =
    let named = rw c.chars.ensures.rest at c.in_default.ensures.none in
    λ o. unpeeled c.args.name.now (codes "." ++ o) c.args.text.now named

pub returns-in-Some-text_after-clause-some : goal.returns-in-Some-text_after-clause-some
returns-in-Some-text_after-clause-some c =
    let first = rw c.chars.ensures.rest at c.in-Some.ensures.some.1 in
    λ o. peeled c.args.name.now (codes "." ++ o) c.args.text.now (chars_rest c.in-Some.rest) first
    ∙ peeled (codes ".") o (chars_rest c.in-Some.rest) (chars_rest c.in-Some-text_after.rest) c.in-Some-text_after.ensures.some.1
    ∙ ap (λ (t : List ℕ). bytes_eq (text_of o) t) (sym c.as_str.ensures)

pub returns-in-None-clause-none : goal.returns-in-None-clause-none
returns-in-None-clause-none c =
    let first = rw c.chars.ensures.rest at c.in-Some.ensures.some.1 in
    λ o. peeled c.args.name.now (codes "." ++ o) c.args.text.now (chars_rest c.in-Some.rest) first
    ∙ unpeeled (codes ".") o (chars_rest c.in-Some.rest) c.in-None.ensures.none
