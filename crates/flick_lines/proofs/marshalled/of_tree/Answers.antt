use Rattle.serde_json.specs.View.{view}
use Rattle.json_shape.specs.Requests.{request_of}
use Rattle.flick_lines.specs.Counted.{call_counted, counted_in}
use Rattle.flick_lines.specs.Marshalled.{call_digits, text_in}
use Rattle.flick_lines.specs.Paid.{call_by_code}
use Rattle.flick_lines.proofs.Options.{if-ok, on-ok}
use Rattle.flick_lines.proofs.Paying.{paid-refused, paid-value}
use Rattle.flick_lines.proofs.Recorded.{marked, of-value, refused-at}
use Rattle.flick_lines.proofs.marshalled.of_tree.Goals as goal

pub returns-in-Ok-clause-value : goal.returns-in-Ok-clause-value
returns-in-Ok-clause-value c =
    if-ok _ _ _ (λ o. of-value (call_digits c.args.engine.now.binding c.args.engine.now.minor) _ c.in-Ok.record
    (rw c.bound.ensures.value at c.in-Ok.ensures.comes) (text_in o _))
    c.made_of.ensures.value

pub returns-in_ok-refused-in-Err-clause-value : goal.returns-in_ok-refused-in-Err-clause-value
returns-in_ok-refused-in-Err-clause-value c =
    let b = c.args.engine.now.binding in
    refused-at request_of (call_digits b c.args.engine.now.minor) b c.bound.result.now (view c.args.json.now) c.in-Err.refusal
    c.bound.ensures.value c.in-Err.ensures.comes c.in_ok-refused-in-Err.ensures.memory _ c.in_ok-refused-in-Err.ensures.reported

pub returns-in_ok-refused-in-Err-clause-either : goal.returns-in_ok-refused-in-Err-clause-either
returns-in_ok-refused-in-Err-clause-either c =
    marked c.in-Err.refusal _ c.in_ok-refused-in-Err.ensures.memory c.in_ok-refused-in-Err.ensures.reported

pub returns-in-Ok-clause-paid : goal.returns-in-Ok-clause-paid
returns-in-Ok-clause-paid c =
    on-ok _ _ _
    (paid-value (call_by_code c.args.engine.now) _ c.in-Ok.record (rw c.bound.ensures.value at c.in-Ok.ensures.comes) _ _)
    c.made_of.ensures.paid

pub returns-in_ok-refused-in-Err-clause-paid : goal.returns-in_ok-refused-in-Err-clause-paid
returns-in_ok-refused-in-Err-clause-paid c =
    let b = c.args.engine.now.binding in
    paid-refused (call_by_code c.args.engine.now) request_of b c.bound.result.now (view c.args.json.now) c.in-Err.refusal
    c.bound.ensures.value c.in-Err.ensures.comes c.in_ok-refused-in-Err.ensures.memory _

pub returns-in-Ok-clause-counts : goal.returns-in-Ok-clause-counts
returns-in-Ok-clause-counts c =
    if-ok _ _ _ (λ o. of-value (call_counted c.args.engine.now) _ c.in-Ok.record
    (rw c.bound.ensures.value at c.in-Ok.ensures.comes) (counted_in o c.made_of.new.buf))
    c.made_of.ensures.counts

pub returns-in_ok-refused-in-Err-clause-counts : goal.returns-in_ok-refused-in-Err-clause-counts
returns-in_ok-refused-in-Err-clause-counts c =
    let e = c.args.engine.now in
    refused-at request_of (call_counted e) e.binding c.bound.result.now (view c.args.json.now) c.in-Err.refusal
    c.bound.ensures.value c.in-Err.ensures.comes c.in_ok-refused-in-Err.ensures.memory _ c.in_ok-refused-in-Err.ensures.reported
