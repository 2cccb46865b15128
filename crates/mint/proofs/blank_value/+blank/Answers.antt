use Rattle.std.proofs.Common.{◌∙◌, refl, rules, FitsSigned}
use Rattle.std.specs.Int.{w128}
use Rattle.std.proofs.lemmas.Int.{to_z-of_z}
use Rattle.mint.specs.Values.{list_of}
use Rattle.mint.specs.Types.{unfolded, fields_at}
use Rattle.mint.specs.Blank.{blanks}
use Rattle.mint.proofs.Seen.{seen-Void}
use Rattle.mint.proofs.Blanks.{all_listed, all_copies, all_made, first_made, other_made, none_made}
use Rattle.mint.proofs.blank_value.+blank.Goals as goal

pub blanks-returns : goal.blanks-returns
blanks-returns t c =
    let made =
    all_made
    (λ is.
    list_of (blanks (fields_at (unfolded c.args.mint.now) is))) _ _ _ c.loop-field.field-index c.as_slice-field-items.ensures
    c.loop-field-test.false refl c.loop-field.invariant in
    all_listed _ _ made

pub copies-returns : goal.copies-returns
copies-returns t c = all_copies _ _ _ (search rules)

pub blank_arm-returns-in_ok-blank_of-in-Some : goal.blank_arm-returns-in_ok-blank_of-in-Some
blank_arm-returns-in_ok-blank_of-in-Some t c =
    let fits : FitsSigned w128 c.in-Some.field-0.now.0 = search rules in
    first_made _ _ _ _ _ _ _ _ c.arm.ensures c.in-Some.ensures (to_z-of_z w128 _ fits) c.in_ok-blank_of-in-Some.ensures

pub blank_arm-returns-in_ok-blank_of-in-Some-other : goal.blank_arm-returns-in_ok-blank_of-in-Some-other
blank_arm-returns-in_ok-blank_of-in-Some-other t c =
    let fits : FitsSigned w128 c.blank_tag.result = search rules in
    other_made _ _ _ _ _ _ _ _ c.arm-in-Some-other.ensures c.in-None.ensures c.in-Some-other.is
    (to_z-of_z w128 _ fits ∙ c.blank_tag.ensures) c.in_ok-blank_of-in-Some-other.ensures

pub blank_arm-returns-in-None-other : goal.blank_arm-returns-in-None-other
blank_arm-returns-in-None-other t c = seen-Void ∙ none_made _ _ _ _ c.in-None.ensures c.in-None-other.is
