use Rattle.json_shape.proofs.Plain.{some_in_plain, some_after_plain, if_none_in_plain, if_none_after_plain, none_after_long, some_ascii}
use Rattle.json_shape.proofs.names.after_name.Goals as goal

pub returns-then-plain-clause-plain : goal.returns-then-plain-clause-plain
returns-then-plain-clause-plain c =
    λ p. some_ascii c.args.name.now c.args.text.now c.past_dot.result (c.requires p) c.past_dot.ensures.some

pub returns-then-plain-clause-some : goal.returns-then-plain-clause-some
returns-then-plain-clause-some c =
    some_in_plain c.args.name.now c.args.text.now c.past_dot.result (c.requires c.if-plain.true) c.past_dot.ensures.some

pub returns-then-plain-clause-none : goal.returns-then-plain-clause-none
returns-then-plain-clause-none c =
    if_none_in_plain c.args.name.now c.args.text.now c.past_dot.result (c.requires c.if-plain.true) c.past_dot.ensures.none

pub returns-then-name-text-clause-none : goal.returns-then-name-text-clause-none
returns-then-name-text-clause-none c = none_after_long c.args.name.now c.args.text.now c.if-name-text.true

pub returns-then-is_ascii-clause-some : goal.returns-then-is_ascii-clause-some
returns-then-is_ascii-clause-some c =
    some_after_plain c.args.name.now c.args.text.now c.past_dot-then-is_ascii.result c.if-is_ascii.ensures.cases
    c.past_dot-then-is_ascii.ensures.some

pub returns-then-is_ascii-clause-none : goal.returns-then-is_ascii-clause-none
returns-then-is_ascii-clause-none c =
    if_none_after_plain c.args.name.now c.args.text.now c.past_dot-then-is_ascii.result c.if-is_ascii.ensures.cases
    c.past_dot-then-is_ascii.ensures.none
