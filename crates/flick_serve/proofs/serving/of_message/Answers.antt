use Rattle.std.proofs.Common.{◌≡◌, ℕ, List, None, Ok, Some, ap, subst}
use Rattle.std.specs.Prelude.{IfOk}
use Rattle.hex.specs.Hex.{encode_lower}
use Rattle.raw_buf.specs.View.{View}
use Rattle.skeleton.specs.TableSkeleton.{answer_at}
use Rattle.flick_engine.specs.declared.serve.Served.{Served}
use Rattle.flick_engine.specs.Serving.{gives, Serves, reply_in}
use Rattle.flick_serve.proofs.Answering.{reply_answer, silent_answer}
use Rattle.flick_serve.proofs.Paying.{served_paid}
use Rattle.flick_serve.proofs.serving.of_message.Goals as goal

pub returns-in-Reply-clause-value : goal.returns-in-Reply-clause-value
returns-in-Reply-clause-value c =
    let b = c.args.engine.now.binding in
    let work = gives (λ op request. answer_at c.args.kept.now op) in
    let octets = c.serve.new.buf.done in
    let message = ap (λ (v : View). v.octets) c.new-view.ensures in
    let replied = subst (λ (s : Served). Serves b c.args.engine.now.minor work c.new-view.result.octets (reply_in s octets)) c.in-Reply.is
    c.in_ok-served.ensures.serves in
    let serves = subst (λ (o : List ℕ). Serves b c.args.engine.now.minor work o (Some octets)) message replied in
    reply_answer b c.args.engine.now.minor (answer_at c.args.kept.now) c.args.message.now octets c.digits.result serves
    (subst (λ (o : List ℕ). IfOk c.digits.result (λ a. a ≡ encode_lower o)) c.octets.ensures c.digits.ensures)

pub returns-in-Silent-clause-value : goal.returns-in-Silent-clause-value
returns-in-Silent-clause-value c =
    let b = c.args.engine.now.binding in
    let work = gives (λ op request. answer_at c.args.kept.now op) in
    let octets = c.serve.new.buf.done in
    let message = ap (λ (v : View). v.octets) c.new-view.ensures in
    let silent = subst (λ (s : Served). Serves b c.args.engine.now.minor work c.new-view.result.octets (reply_in s octets)) c.in-Silent.is
    c.in_ok-served.ensures.serves in
    let serves = subst (λ (o : List ℕ). Serves b c.args.engine.now.minor work o None) message silent in
    silent_answer b c.args.engine.now.minor (answer_at c.args.kept.now) c.args.message.now c.copied.result serves c.copied.ensures

pub returns-in-Reply-clause-paid : goal.returns-in-Reply-clause-paid
returns-in-Reply-clause-paid c =
    served_paid c.args.engine.now (answer_at c.args.kept.now) c.args.message.now c.new-view.result.octets c.in_ok-served.served
    c.digits.result _ _ (ap (λ (v : View). v.octets) c.new-view.ensures) c.in_ok-served.ensures.serves c.in_ok-served.ensures.cost
    (λ e. c.in_ok-served.ensures.silent (ap Ok e)) c.in_ok-served.ensures.spent

pub returns-in-Silent-clause-paid : goal.returns-in-Silent-clause-paid
returns-in-Silent-clause-paid c =
    served_paid c.args.engine.now (answer_at c.args.kept.now) c.args.message.now c.new-view.result.octets c.in_ok-served.served
    c.copied.result _ _ (ap (λ (v : View). v.octets) c.new-view.ensures) c.in_ok-served.ensures.serves c.in_ok-served.ensures.cost
    (λ e. c.in_ok-served.ensures.silent (ap Ok e)) c.in_ok-served.ensures.spent
