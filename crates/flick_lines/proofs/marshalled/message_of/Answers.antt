use Rattle.json_shape.specs.Requests.{request_of}
use Rattle.flick_lines.specs.Counted.{call_counted, counted_in}
use Rattle.flick_lines.specs.Marshalled.{call_digits, text_in}
use Rattle.flick_lines.specs.Paid.{call_by_code}
use Rattle.flick_lines.proofs.Options.{if-ok, on-ok}
use Rattle.flick_lines.proofs.WithoutTrees.{usual-paid, usual-value}
use Rattle.flick_lines.proofs.marshalled.message_of.Goals as goal

pub returns-in-Some-clause-value : goal.returns-in-Some-clause-value
returns-in-Some-clause-value c =
    let b = c.args.engine.now.binding in
    if-ok _ _ _ (λ o. usual-value (call_digits b c.args.engine.now.minor) (request_of b) c.args.line.now c.in-Some.record
    (rw c.in-Some.is at c.in_ok-record.ensures.request) (text_in o _)) c.made_of.ensures.value

pub returns-in-Some-clause-paid : goal.returns-in-Some-clause-paid
returns-in-Some-clause-paid c =
    on-ok _ _ _ (usual-paid (call_by_code c.args.engine.now) (request_of c.args.engine.now.binding) c.args.line.now c.in-Some.record
    (rw c.in-Some.is at c.in_ok-record.ensures.request) _ _) c.made_of.ensures.paid

pub returns-in-Some-clause-counts : goal.returns-in-Some-clause-counts
returns-in-Some-clause-counts c =
    let engine = c.args.engine.now in
    if-ok _ _ _ (λ o. usual-value (call_counted engine) (request_of engine.binding) c.args.line.now c.in-Some.record
    (rw c.in-Some.is at c.in_ok-record.ensures.request) (counted_in o c.made_of.new.buf)) c.made_of.ensures.counts
