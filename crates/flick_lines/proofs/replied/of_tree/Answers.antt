use Rattle.serde_json.specs.View.{view}
use Rattle.json_shape.specs.Replies.{reply_of}
use Rattle.flick_lines.specs.Marshalled.{reply_digits}
use Rattle.flick_lines.specs.Paid.{reply_by_code}
use Rattle.flick_lines.proofs.Options.{if-ok, if-ok-and, on-ok}
use Rattle.flick_lines.proofs.Paying.{paid-refused, paid-value}
use Rattle.flick_lines.proofs.Recorded.{of-value, refused-at}
use Rattle.flick_lines.proofs.replied.of_tree.Goals as goal

pub returns-in-Ok-clause-value : goal.returns-in-Ok-clause-value
returns-in-Ok-clause-value c =
    if-ok _ _ _
    (of-value (reply_digits c.args.engine.now.binding c.args.engine.now.minor) _ c.in-Ok.record
    (rw c.bound.ensures.value at c.in-Ok.ensures.comes))
    c.digits_of.ensures.value

pub returns-in-Err-clause-value : goal.returns-in-Err-clause-value
returns-in-Err-clause-value c =
    let b = c.args.engine.now.binding in
    if-ok-and _ _ _ _
    (refused-at reply_of (reply_digits b c.args.engine.now.minor) b c.bound.result.now (view c.args.json.now) c.in-Err.refusal
    c.bound.ensures.value c.in-Err.ensures.comes)
    c.refused.ensures.reported c.refused.ensures.memory

pub returns-in-Ok-clause-paid : goal.returns-in-Ok-clause-paid
returns-in-Ok-clause-paid c =
    on-ok _ _ _
    (paid-value (reply_by_code c.args.engine.now) _ c.in-Ok.record (rw c.bound.ensures.value at c.in-Ok.ensures.comes) _ _)
    c.digits_of.ensures.paid

pub returns-in-Err-clause-paid : goal.returns-in-Err-clause-paid
returns-in-Err-clause-paid c =
    let b = c.args.engine.now.binding in
    on-ok _ _ _
    (λ other. paid-refused (reply_by_code c.args.engine.now) reply_of b c.bound.result.now (view c.args.json.now) c.in-Err.refusal
    c.bound.ensures.value c.in-Err.ensures.comes other _)
    c.refused.ensures.memory
