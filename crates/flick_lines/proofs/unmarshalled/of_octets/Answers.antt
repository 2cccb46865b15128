use Rattle.std.proofs.Common.{ap, subst, List, ℕ, Err}
use Rattle.raw_buf.specs.View.{View}
use Rattle.flick_engine.specs.Received.{Answers, asked, ReadCall}
use Rattle.flick_lines.specs.Unmarshalled.{request_text}
use Rattle.flick_lines.proofs.Options.{if-ok}
use Rattle.flick_lines.proofs.Written.{call-read, call-refused, octets-read, octets-refused}
use Rattle.flick_lines.proofs.unmarshalled.of_octets.Goals as goal

pub returns-in_ok-record_text-in-Ok : goal.returns-in_ok-record_text-in-Ok
returns-in_ok-record_text-in-Ok c =
    let b = c.args.engine.now.binding in
    let reads = call-read b c.args.message.now c.in-Ok.request (rw c.new-view.ensures at c.in-Ok.ensures.read) in
    if-ok _ _ _ (octets-read (ReadCall b) (request_text b) c.args.message.now (asked c.in-Ok.request) reads)
    (rw (c.as_slice.ensures.value, c.in_ok-record_text-in-Ok.ensures) at c.copied.ensures)

pub returns-in_ok-refusal_text-in-Err : goal.returns-in_ok-refusal_text-in-Err
returns-in_ok-refusal_text-in-Err c =
    let b = c.args.engine.now.binding in
    let same = ap (λ (v : View). v.octets) c.new-view.ensures in
    let answers = subst (λ (o : List ℕ). Answers b o (Err c.in-Err.refusal)) same c.in-Err.ensures.read in
    let reads = call-refused b c.args.message.now c.in-Err.refusal answers c.in_ok-refusal_text-in-Err.ensures.memory in
    if-ok _ _ _ (octets-refused (ReadCall b) (request_text b) c.args.message.now c.in-Err.refusal reads)
    (rw (c.as_bytes.ensures.value, c.in_ok-refusal_text-in-Err.ensures.reported) at c.copied-in-Err.ensures)
